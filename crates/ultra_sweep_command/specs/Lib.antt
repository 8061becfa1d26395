pub mod Text
pub mod Jobs
pub mod Shown
pub mod Output
pub mod SeatResults
pub mod Sweep
