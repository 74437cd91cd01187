pub mod Tallies
