pub mod Outer
pub mod Came
pub mod Seen
pub mod Made
pub mod Gone
