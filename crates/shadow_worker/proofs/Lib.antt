pub mod Ending
pub mod Fitting
pub mod Listing
pub mod Turning
pub mod WorkTurns
