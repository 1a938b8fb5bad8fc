pub mod Escapes
pub mod Names
pub mod Task
pub mod Answers
