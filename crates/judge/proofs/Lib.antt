-- The judge's laws.
pub mod Laws
