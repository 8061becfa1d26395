pub mod Count
pub mod Shown
pub mod Headlines
pub mod Parts
mod WorkedParts
