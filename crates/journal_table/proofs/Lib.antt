pub mod Texts
pub mod Forms
pub mod Numbers
pub mod Keeping
pub mod Only
pub mod Numbered
pub mod RowsRead
