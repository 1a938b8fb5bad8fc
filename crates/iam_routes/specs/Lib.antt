pub mod Asked
pub mod Matched
pub mod Places
pub mod Query
pub mod Routed
pub mod Routes
