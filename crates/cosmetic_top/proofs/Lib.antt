pub mod Drilled
pub mod Ends
pub mod Parts
pub mod Texts
mod Spending
