pub mod Bytes
pub mod Arms
pub mod Escapes
