pub mod Causes
pub mod Given
pub mod Rows
pub mod Memory
