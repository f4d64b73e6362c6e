-- The header of a binary Netpbm file, as definitions on lists.
pub mod Header
pub mod Gap
pub mod Cases
