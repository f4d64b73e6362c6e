-- The laws of the exported functions for files and depths.
pub mod Told
