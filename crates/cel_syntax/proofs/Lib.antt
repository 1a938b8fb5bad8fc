pub mod Whole
pub mod Computed
pub mod Answering
pub mod Names
pub mod Again
