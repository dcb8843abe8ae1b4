-- Laws of a cut as text.
pub mod Touching
pub mod Printing
