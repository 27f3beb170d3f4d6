pub mod Generator
pub mod Report
pub mod Output
pub mod Numbers
pub mod Laws
pub mod Example
