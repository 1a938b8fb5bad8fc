pub mod Conditions
pub mod Elements
pub mod Histories
pub mod Modified
pub mod Turns
