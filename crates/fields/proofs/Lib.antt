-- The laws that the proofs of the functions cite.
pub mod Steps
pub mod Every
pub mod Split
pub mod Alike
pub mod Written
pub mod Lines
pub mod LaidOut
pub mod Places
pub mod Decimal
