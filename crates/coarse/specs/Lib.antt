-- The definitions that the contracts of the first pass cite.
pub mod Rows
