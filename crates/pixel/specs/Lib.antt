-- The definitions that the contracts of one pixel's arithmetic cite.
pub mod Moments
pub mod Over
