pub mod Behind
pub mod Exact
pub mod Forms
pub mod Groups
pub mod Numbers
pub mod Parsing
pub mod Parts
pub mod Told
