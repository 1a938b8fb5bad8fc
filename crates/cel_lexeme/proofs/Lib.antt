pub mod Bodies
pub mod Tests
pub mod Escaping
pub mod Utf8
pub mod Quoted
pub mod Classes
pub mod Signs
pub mod Covering
pub mod Spelled
pub mod Proper
mod Among
