pub mod Fields
pub mod Lines
pub mod Reads
pub mod Changes
pub mod Inserted
pub mod Told
pub mod Example
pub mod ChangesExample
