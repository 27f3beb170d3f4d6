mod Numbers
mod Following
mod Written
mod Telling
mod Lines
pub mod Spending
mod Patterns
pub mod Unnumbered
