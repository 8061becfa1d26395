pub mod Common
pub mod Arrivals
pub mod Going
pub mod Combinations
pub mod Rests
