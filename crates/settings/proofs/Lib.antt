-- The laws that the proofs of the functions cite.
pub mod Words
pub mod Lines
pub mod Texts
pub mod Answers
pub mod Found
pub mod Exactly
pub mod Unique
pub mod Written
pub mod Meaning
pub mod Own
pub mod Cases
