-- The laws that the proofs of the functions cite.
pub mod Records
pub mod Passing
pub mod Frames
