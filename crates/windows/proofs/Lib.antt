-- What belongs to no one function.
pub mod Spans
pub mod Cuts
pub mod Crossings
pub mod Lines
pub mod Windows
pub mod Bridge
