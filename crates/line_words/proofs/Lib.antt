-- Laws of the words of a line.
pub mod Snoc
pub mod Sameness
pub mod Keeping
pub mod Hearing
pub mod Tested
