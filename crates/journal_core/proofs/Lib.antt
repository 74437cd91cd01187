pub mod Lists
pub mod Legal
pub mod Standing
pub mod Begins
