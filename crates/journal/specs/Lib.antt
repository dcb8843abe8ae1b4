-- What a journal is: words as bytes, records, and the whole file.
pub mod Words
pub mod Format
