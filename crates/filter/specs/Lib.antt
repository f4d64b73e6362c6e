-- The definitions that the contracts of the filter cite.
pub mod Fit
pub mod Row
