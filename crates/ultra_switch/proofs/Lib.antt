pub mod Combining
pub mod Marking
pub mod Partners
pub mod Splitting
