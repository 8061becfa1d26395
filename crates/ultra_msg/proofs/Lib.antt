pub mod Moving
pub mod Pairs
pub mod Prefixes
pub mod Parts
pub mod Writing
