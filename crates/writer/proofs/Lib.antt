-- Laws of runs, of parts and rows, of sums of lines, and of what is written where.
pub mod Runs
pub mod Parts
pub mod Rows
pub mod Placed
pub mod Recovered
pub mod Lines
pub mod Sliding
pub mod Refined
