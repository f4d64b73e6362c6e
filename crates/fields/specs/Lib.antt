-- Lines, fields and numbers of a text, as definitions on lists.
pub mod Words
pub mod Every
pub mod Bytes
pub mod Fields
pub mod LaidOut
pub mod Parts
pub mod Decimal
pub mod Written
