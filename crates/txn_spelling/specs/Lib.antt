pub mod Canonical
pub mod Strangers
