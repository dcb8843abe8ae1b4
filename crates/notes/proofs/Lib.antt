-- Laws of the words of relaxed queries.
pub mod Words
