pub mod Cut
pub mod Past
pub mod Tokens
