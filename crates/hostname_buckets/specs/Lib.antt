pub mod Active
pub mod Held
