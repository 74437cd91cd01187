pub mod Noting
pub mod Printing
pub mod Reading
pub mod Agreeing
pub mod Behind
pub mod PlainNames
pub mod Journals
pub mod Pieces
pub mod Pairs
pub mod Splits
mod Wrongs
mod WrongFinals
