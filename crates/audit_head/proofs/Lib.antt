pub mod Behind
pub mod Heads
