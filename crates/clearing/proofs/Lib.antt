-- Laws of the rectangles, and of what is written by way of a box.
pub mod Grown
pub mod Fresh
