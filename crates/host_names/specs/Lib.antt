pub mod Hosts
pub mod Left
pub mod Suffixes
pub mod SuffixLines
pub mod Held
