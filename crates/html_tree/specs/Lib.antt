pub mod Rising
pub mod Chain
pub mod Numerals
pub mod Spelled
pub mod Counts
pub mod LaterNames
pub mod Limits
pub mod Example
