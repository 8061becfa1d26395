pub mod RunWords
pub mod Flags
