pub mod Interface
pub mod Ring
pub mod Registers
