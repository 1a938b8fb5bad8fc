pub mod Back
pub mod Climbing
pub mod Parts
pub mod Tested
