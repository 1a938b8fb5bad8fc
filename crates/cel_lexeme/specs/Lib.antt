pub mod Lexeme
pub mod Front
