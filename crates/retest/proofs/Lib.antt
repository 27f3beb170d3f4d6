pub mod Sets
pub mod Visits
pub mod Keys
pub mod Starting
pub mod Pricing
mod Same
mod Members
pub mod Ends
