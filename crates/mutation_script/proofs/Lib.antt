mod Texts
mod Told
mod Inserting
pub mod Growth
