pub mod Covers
pub mod Counts
