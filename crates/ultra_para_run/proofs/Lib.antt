pub mod Lines
pub mod Made
pub mod Drawn
pub mod Draw
pub mod Rows
