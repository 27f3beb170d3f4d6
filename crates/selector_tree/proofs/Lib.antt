pub mod Spelled
pub mod Joined
pub mod TextLaws
mod Example
pub mod Unnumbered
