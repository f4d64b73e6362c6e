-- PPM files, as definitions on lists: the file that is written, what reader and writer promise.
pub mod File
pub mod Promise
pub mod Cases
