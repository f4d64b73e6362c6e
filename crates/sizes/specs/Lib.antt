-- The definitions that the contracts of the window sizes cite.
pub mod Sizes
pub mod Bits
pub mod Before
