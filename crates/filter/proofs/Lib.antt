-- Laws of the filter.
pub mod Words
pub mod Windows
pub mod Rows
pub mod Lines
pub mod Samples
pub mod Going
