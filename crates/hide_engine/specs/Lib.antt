pub mod Exact
pub mod Groups
pub mod Changes
pub mod Budgets
pub mod Ready
pub mod Chosen
pub mod Removing
