pub mod Shown
pub mod Spelled
pub mod Separate
pub mod Readable
pub mod Shorter
pub mod CutAgain
