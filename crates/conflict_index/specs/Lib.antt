pub mod Index
pub mod Masks
pub mod Kept
