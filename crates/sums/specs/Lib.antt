-- The definitions that the contracts of the sums cite.
pub mod Sum
pub mod Before
