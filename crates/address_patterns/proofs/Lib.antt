pub mod Cuts
mod Examples
pub mod Greedy
pub mod LastByte
pub mod Shorter
