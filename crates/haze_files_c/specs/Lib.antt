-- The definitions that the contracts of the exported functions for files and depths cite.
pub mod Depths
pub mod Netpbm
