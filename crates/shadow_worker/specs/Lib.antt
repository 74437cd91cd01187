pub mod Turn
pub mod Worked
