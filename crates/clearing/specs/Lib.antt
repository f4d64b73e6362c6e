-- What the contracts of Clear and Replace speak of, besides the rules.
pub mod Call
