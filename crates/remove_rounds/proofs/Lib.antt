mod Rounds
pub mod Spending
