pub mod Digits
pub mod Writing
pub mod WrittenBytes
pub mod Pairs
pub mod Numerals
pub mod GivenFiles
