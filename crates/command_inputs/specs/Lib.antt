pub mod Due
pub mod Inputs
pub mod Reads
pub mod Example
