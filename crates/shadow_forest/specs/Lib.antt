pub mod View
pub mod Answers
pub mod Parts
pub mod Kept
pub mod Ready
pub mod Bench
pub mod Listed
pub mod Staying
