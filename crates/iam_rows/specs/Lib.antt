pub mod Bodies
pub mod Finding
pub mod Kept
pub mod Rows
