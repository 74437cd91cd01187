pub mod Modes
pub mod Serving
