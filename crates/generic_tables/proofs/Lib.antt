pub mod KeyLaws
pub mod Carrying
pub mod Written
pub mod WordCuts
pub mod Entering
pub mod Unnumbered
pub mod Filing
