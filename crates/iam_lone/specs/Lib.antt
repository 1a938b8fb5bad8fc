pub mod Histories
pub mod Lone
pub mod Ran
