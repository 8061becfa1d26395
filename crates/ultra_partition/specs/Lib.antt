pub mod Merging
pub mod Prelude
pub mod Cut
pub mod Exchange
pub mod Events
pub mod Halves
pub mod Holding
pub mod Moments
