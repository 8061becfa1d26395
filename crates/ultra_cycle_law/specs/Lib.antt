pub mod Prelude
pub mod Frame
pub mod Course
pub mod Whole
pub mod Law
