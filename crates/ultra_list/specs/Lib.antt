pub mod Words
pub mod SerialText
pub mod Reading
pub mod Faults
