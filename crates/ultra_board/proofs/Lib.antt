pub mod Sums
pub mod Times
pub mod Claim
pub mod Done
pub mod Passes
pub mod Seats
pub mod Closing
