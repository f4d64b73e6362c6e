-- The definitions that the contracts of the libraries for C share.
pub mod Handed
pub mod Returns
