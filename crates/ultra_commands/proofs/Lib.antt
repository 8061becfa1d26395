pub mod Endings
pub mod Parts
