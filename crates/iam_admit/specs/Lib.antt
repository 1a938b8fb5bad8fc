pub mod Creating
pub mod Facts
pub mod Follows
