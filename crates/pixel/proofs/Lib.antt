-- The laws of one pixel's arithmetic.
pub mod Sizes
pub mod Signs
pub mod Fractions
pub mod Scaled
pub mod Sampled
