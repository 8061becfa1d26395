pub mod Latency
pub mod Open
pub mod Summary
pub mod Few
