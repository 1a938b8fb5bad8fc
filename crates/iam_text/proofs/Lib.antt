pub mod Exact
pub mod InOrder
