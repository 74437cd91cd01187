pub mod Generated
pub mod Grown
pub mod Worked
