pub mod Failure
pub mod Inputs
pub mod Traffic
pub mod Shown
pub mod Status
