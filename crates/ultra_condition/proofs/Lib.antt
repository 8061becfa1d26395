pub mod Parts
pub mod Sums
pub mod Agreement
pub mod References
pub mod Negations
