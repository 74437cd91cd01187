pub mod Judging
pub mod Reports
pub mod Audited
pub mod Checked
pub mod Kept
pub mod Limits
