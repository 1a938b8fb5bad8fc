pub mod formers
pub mod Moments
pub mod Places
pub mod Put
