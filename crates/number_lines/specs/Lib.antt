-- How a line is read as numbers.
pub mod Lines
