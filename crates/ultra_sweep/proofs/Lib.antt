pub mod Numbers
pub mod Filling
pub mod Whole
pub mod Doing
pub mod JobTexts
