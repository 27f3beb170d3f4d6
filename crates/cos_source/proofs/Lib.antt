mod LineEnds
mod LastSpaces
mod Trims
mod Cuts
mod Numerals
mod Fronts
pub mod LinesMake
