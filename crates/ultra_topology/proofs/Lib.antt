pub mod Common
pub mod Set
pub mod Visits
pub mod Readers
pub mod Standing
pub mod Marks
pub mod Put
