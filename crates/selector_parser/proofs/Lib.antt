pub mod Args
pub mod Layers
pub mod Places
pub mod Puts
pub mod Readings
pub mod Stages
pub mod Walk
