pub mod Tables
pub mod Taking
pub mod Reading
pub mod Unread
