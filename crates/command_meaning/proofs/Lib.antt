pub mod Active
pub mod Pages
pub mod Reports
