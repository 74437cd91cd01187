pub mod Prepared
pub mod Answers
pub mod Talks
pub mod Ran
pub mod Stands
pub mod Wishes
