pub mod Latest
pub mod Rings
