pub mod Answered
pub mod Turns
pub mod Talking
pub mod Ending
