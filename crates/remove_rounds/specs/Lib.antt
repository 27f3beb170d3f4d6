pub mod Numbered
pub mod Costs
