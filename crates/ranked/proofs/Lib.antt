-- Laws of ranks as marks in words.
pub mod Chain
pub mod Marking
pub mod Placing
