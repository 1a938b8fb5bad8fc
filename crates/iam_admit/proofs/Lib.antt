pub mod Creating
pub mod Following
pub mod Known
