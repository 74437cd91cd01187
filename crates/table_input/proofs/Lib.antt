pub mod Long
pub mod Lines
pub mod Ends
