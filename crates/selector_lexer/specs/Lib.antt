pub mod Fronts
pub mod Splits
pub mod Letters
pub mod Stops
