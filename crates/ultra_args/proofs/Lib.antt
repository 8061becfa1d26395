pub mod Building
pub mod Rows
pub mod Tables
pub mod Numbers
