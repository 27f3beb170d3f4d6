pub mod Pages
pub mod Patterns
pub mod Pieces
