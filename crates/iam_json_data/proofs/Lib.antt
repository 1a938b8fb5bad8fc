pub mod Etags
pub mod Bodies
pub mod Members
pub mod Floats
pub mod Objects
pub mod One
pub mod Given
