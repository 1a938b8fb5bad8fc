pub mod Answers
pub mod Bodies
pub mod Calls
pub mod NodeBodies
pub mod Query
pub mod Refusals
pub mod Resources
pub mod Seen
