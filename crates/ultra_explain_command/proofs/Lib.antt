pub mod Firsts
pub mod InRange
pub mod Runs
pub mod LastCycle
