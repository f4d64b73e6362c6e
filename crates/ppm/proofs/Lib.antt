-- The laws that the proofs of the functions cite, and what reader and writer have in common.
pub mod Long
pub mod Said
pub mod Exactly
pub mod Unique
pub mod Roundtrip
pub mod Reading
pub mod Cases
