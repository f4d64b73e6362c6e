-- The definitions that the contracts of the window minimum cite.
pub mod Span
pub mod Blocks
pub mod Line
