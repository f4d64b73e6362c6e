-- The laws that the proofs of the functions cite, and what a header that is put together from its parts says.
pub mod Tokens
pub mod Gaps
pub mod Headers
pub mod Passed
pub mod Grammar
pub mod Unique
pub mod Cases
