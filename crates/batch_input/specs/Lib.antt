pub mod Input
pub mod Taking
pub mod Unread
pub mod Reading
