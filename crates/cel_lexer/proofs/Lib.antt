pub mod Passed
pub mod Turn
pub mod Only
