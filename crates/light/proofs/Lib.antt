-- What belongs to no one function.
pub mod Positions
pub mod Levels
pub mod Counts
pub mod Keeping
pub mod Minima
pub mod Areas
pub mod Going
pub mod Answer
