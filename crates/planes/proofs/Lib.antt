-- Laws of the planes.
pub mod Wiped
pub mod Shown
pub mod Tails
pub mod Stored
