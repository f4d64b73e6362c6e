-- What belongs to no one function.
pub mod Rows
pub mod Planes
pub mod Minima
pub mod Going
