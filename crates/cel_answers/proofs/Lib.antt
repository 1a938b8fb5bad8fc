mod Lines
mod Unique
