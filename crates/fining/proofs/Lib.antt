-- Laws of a text of whole programs.
pub mod Rows
pub mod Words
pub mod Lines
pub mod Seeing
pub mod Saying
pub mod Examples
