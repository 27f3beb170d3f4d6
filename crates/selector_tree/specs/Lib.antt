pub mod Letters
pub mod Canonical
pub mod Example
pub mod Unnumbered
