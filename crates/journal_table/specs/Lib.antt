pub mod Rows
pub mod Spelled
pub mod Replayed
pub mod Writes
pub mod Judged
