-- The laws that the proofs of the functions cite, and what a depth means.
pub mod Place
pub mod Table
pub mod Meaning
pub mod Written
pub mod Exactly
pub mod Accepted
pub mod Unique
pub mod Says
pub mod Calls
pub mod Cases
