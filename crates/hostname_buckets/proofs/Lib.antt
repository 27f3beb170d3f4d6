mod Examples
pub mod Entering
pub mod Finding
pub mod Walking
pub mod Laws
pub mod Whole
