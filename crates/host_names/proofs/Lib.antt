mod Examples
pub mod Holding
pub mod Labels
mod Names
pub mod Spelled
pub mod Tops
pub mod Under
pub mod Walks
