pub mod Finals
pub mod Lines
pub mod Unread
