-- The laws of the one promise.
pub mod Unique
pub mod Told
