-- The records of the program's text, and the reader's state.
pub mod Records
pub mod Judging
pub mod Reader
