pub mod Sensors
pub mod Order
pub mod Changes
pub mod Dirty
pub mod Nested
