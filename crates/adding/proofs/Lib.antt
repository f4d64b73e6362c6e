-- The laws of a frame that is written byte by byte.
pub mod Laws
