pub mod Filters
pub mod Hidden
pub mod Rounds
pub mod States
