-- What the callers know of a call that is not refused.
pub mod Passed
pub mod Accepted
