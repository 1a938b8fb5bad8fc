pub mod Accepting
pub mod Fixed
pub mod Given
pub mod Known
pub mod Reading
pub mod StoredParts
pub mod Tests
