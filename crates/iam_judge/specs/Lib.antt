pub mod Granting
pub mod Leading
