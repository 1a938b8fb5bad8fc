pub mod Fields
pub mod Reply
pub mod Front
pub mod Target
pub mod Look
pub mod Stream
