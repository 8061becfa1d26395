pub mod Holders
pub mod Ports
