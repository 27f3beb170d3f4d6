pub mod BadHosts
pub mod Gives
pub mod Laws
pub mod LineReads
pub mod ListSteps
pub mod Lists
pub mod Weaving
pub mod Woven
