-- The definitions that the contracts of the exported functions for frames cite.
pub mod Calls
