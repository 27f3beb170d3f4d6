pub mod Answers
pub mod Names
pub mod Reported
pub mod Texts
pub mod Example
