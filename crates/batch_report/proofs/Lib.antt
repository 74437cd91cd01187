pub mod Once
pub mod Reports
