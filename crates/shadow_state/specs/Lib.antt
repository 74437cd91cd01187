pub mod Bank
pub mod Step
