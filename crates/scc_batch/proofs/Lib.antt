pub mod Begun
pub mod Benches
pub mod Ends
pub mod Over
pub mod WholeRuns
pub mod Lasting
pub mod Telling
