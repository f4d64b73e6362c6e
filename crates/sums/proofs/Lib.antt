-- Laws of the sums.
pub mod Runs
pub mod Windows
pub mod Turns
pub mod Strips
pub mod Lent
