pub mod Alones
pub mod Standing
pub mod Waiting
