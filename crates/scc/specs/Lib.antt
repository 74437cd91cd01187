pub mod Exit
pub mod Words
pub mod Generated
pub mod Served
