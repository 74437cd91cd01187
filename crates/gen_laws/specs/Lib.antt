pub mod Programs
pub mod Sums
