pub mod Agreement
pub mod Extensions
pub mod Index
pub mod NotesLaws
pub mod Numbers
pub mod Places
mod Readings
