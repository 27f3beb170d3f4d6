pub mod Held
pub mod Proper
pub mod Degrees
