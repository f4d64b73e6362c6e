-- A field's settings over the house's, as definitions on lists.
pub mod Texts
pub mod Promise
pub mod Written
pub mod Cases
