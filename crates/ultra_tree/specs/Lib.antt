pub mod Absorb
pub mod Stored
pub mod Seen
pub mod Text
pub mod Counts
pub mod Places
pub mod Slots
