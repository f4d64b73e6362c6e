-- The laws of the exported functions for frames.
pub mod Told
