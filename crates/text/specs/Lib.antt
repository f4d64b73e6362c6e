-- The program's text, as a definition on lists.
pub mod Text
pub mod Cases
pub mod Ready
