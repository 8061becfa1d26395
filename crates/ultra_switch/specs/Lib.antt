pub mod Arrive
pub mod Split
pub mod Queues
pub mod Calls
pub mod Marks
pub mod Partner
pub mod InPlace
