pub mod Texts
pub mod Readings
pub mod Named
pub mod Searches
pub mod Chains
pub mod Spelled
