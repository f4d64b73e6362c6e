-- The laws of the band figure.
pub mod Laws
