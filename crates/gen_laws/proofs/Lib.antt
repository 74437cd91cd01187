pub mod Runs
pub mod Tables
pub mod Lines
pub mod Orders
pub mod Reports
