pub mod Forms
pub mod Notes
pub mod Serial
pub mod Told
pub mod Wrong
