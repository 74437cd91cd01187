pub mod Bytes
pub mod Front
pub mod Number
pub mod Sound
pub mod Tokens
