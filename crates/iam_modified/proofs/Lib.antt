pub mod Runs
pub mod Sorted
