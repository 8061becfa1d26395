pub mod Prelude
pub mod Halves
pub mod Switches
pub mod Modules
pub mod Elements
