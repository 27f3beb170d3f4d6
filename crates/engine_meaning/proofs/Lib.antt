mod Example
pub mod Cuts
pub mod Outermost
pub mod Fewer
pub mod Settling
