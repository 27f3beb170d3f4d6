pub mod Costs
pub mod Example
pub mod Known
