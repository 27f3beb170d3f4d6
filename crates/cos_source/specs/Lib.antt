pub mod Lines
pub mod MadeOf
pub mod Spaces
pub mod Parts
pub mod Numbers
pub mod Classes
pub mod Mark
pub mod Example
