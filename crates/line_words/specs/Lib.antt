-- The words of a line, whatever they say, and what is kept of a line that is not ended.
pub mod Words
pub mod Speech
pub mod Said
pub mod Held
