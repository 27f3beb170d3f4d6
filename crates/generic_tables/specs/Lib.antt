pub mod Keys
pub mod Carried
pub mod KeysLeft
pub mod Filed
pub mod Tables
pub mod FilterTables
pub mod FilterExample
pub mod Example
