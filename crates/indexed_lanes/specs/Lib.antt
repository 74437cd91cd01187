pub mod Noted
pub mod Placed
pub mod Wanted
