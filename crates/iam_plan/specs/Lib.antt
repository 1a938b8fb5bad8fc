pub mod Access
pub mod Clap
pub mod Commands
pub mod Opening
pub mod Pairs
pub mod Plan
pub mod Values
pub mod Words
