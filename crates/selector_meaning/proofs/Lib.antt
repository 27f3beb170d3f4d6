pub mod Laws
pub mod Selects
pub mod Rows
pub mod Induction
mod Example
pub mod Unnumbered
