pub mod Plans
pub mod Principals
pub mod Taken
pub mod Told
pub mod Values
pub mod Words
