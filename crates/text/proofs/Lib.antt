-- The theorems of the program's text, and the laws that the proofs of its functions cite.
pub mod Cases
pub mod Writing
pub mod Ones
pub mod Showing
pub mod Answering
pub mod Long
