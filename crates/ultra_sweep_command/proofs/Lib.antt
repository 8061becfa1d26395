pub mod Reading
pub mod Showing
pub mod Sharing
pub mod Counted
pub mod Output
