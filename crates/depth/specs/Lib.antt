-- Relative depth, as definitions on lists: the table of thresholds, the depth of a transmission, what the calls promise.
pub mod Table
pub mod Promise
pub mod Cases
