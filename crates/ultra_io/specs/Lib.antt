pub mod Source
pub mod Account
pub mod TextBuffer
pub mod FilledBytes
pub mod Decimal
