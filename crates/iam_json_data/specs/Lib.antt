pub mod Body
pub mod Etag
pub mod Path
pub mod Printed
pub mod Readers
pub mod Reading
pub mod Shown
pub mod Stop
