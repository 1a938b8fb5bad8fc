pub mod CelText
pub mod Stops
pub mod TreeOf
pub mod Back
