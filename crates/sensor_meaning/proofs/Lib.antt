pub mod Laws
pub mod Exact
mod Tables
mod Worked
