pub mod Report
pub mod Order
pub mod Rows
