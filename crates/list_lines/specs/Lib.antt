pub mod Separators
pub mod Options
pub mod Lines
pub mod Conditions
pub mod Parts
pub mod Meanings
pub mod OpenIfs
pub mod FirstParts
