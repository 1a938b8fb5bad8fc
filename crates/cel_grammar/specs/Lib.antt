pub mod Position
pub mod Grammar
pub mod Depth
pub mod Reader
pub mod Answer
