pub mod Journal
pub mod Numbered
pub mod Begins
pub mod Recorded
pub mod Lives
pub mod Reply
