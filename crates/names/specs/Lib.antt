-- The sizes, where each word of a table stands, and what the words of a call and of a table may be.
pub mod Sizes
pub mod Layout
pub mod Words
pub mod Answers
