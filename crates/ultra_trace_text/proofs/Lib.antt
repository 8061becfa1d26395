pub mod Listed
pub mod Numbered
pub mod Yielded
pub mod Skipped
pub mod Rows
pub mod Empty
pub mod Walked
pub mod WorkedTraces
