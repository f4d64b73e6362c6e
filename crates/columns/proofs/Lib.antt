-- What belongs to no one function.
pub mod Stores
pub mod Steps
pub mod Counted
