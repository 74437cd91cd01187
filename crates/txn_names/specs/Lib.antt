pub mod Word
pub mod Tables
pub mod Refusal
pub mod Kept
