pub mod Head
pub mod Behind
pub mod Reading
