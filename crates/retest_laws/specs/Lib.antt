pub mod Pending
pub mod Laws
pub mod Example
