-- Laws of the window sizes.
pub mod Bits
pub mod Rows
pub mod Counts
pub mod Sized
pub mod Spanned
pub mod Before
