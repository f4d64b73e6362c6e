-- The definitions that the contracts of the pipeline cite.
pub mod View
pub mod Cells
pub mod Stage
