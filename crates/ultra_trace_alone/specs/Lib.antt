pub mod Faults
pub mod Dealt
pub mod BlocksAfter
pub mod Headline
pub mod RunText
pub mod Part
