pub mod Answers
pub mod Asked
pub mod Lasting
pub mod Numbered
pub mod Readings
