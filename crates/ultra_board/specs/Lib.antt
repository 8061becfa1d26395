pub mod View
pub mod Step
pub mod Rule
pub mod Seat
