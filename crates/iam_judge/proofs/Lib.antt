pub mod Deciding
pub mod Leading
