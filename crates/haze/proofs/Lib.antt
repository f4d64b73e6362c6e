-- Laws of calls that are not refused.
pub mod Accepted
