pub mod Skipped
pub mod Bits
