pub mod Job
pub mod Work
pub mod Places
pub mod Gather
pub mod Report
pub mod Law
