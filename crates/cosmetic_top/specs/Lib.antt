pub mod Statuses
pub mod Runs
pub mod Reports
pub mod Costs
