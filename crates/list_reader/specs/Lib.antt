pub mod Entries
pub mod Unclosed
pub mod LineReads
pub mod Laws
