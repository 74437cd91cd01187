pub mod Tabled
pub mod Written
