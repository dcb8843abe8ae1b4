-- What the lines of a text come to, whatever they say, and the names in them.
pub mod Lines
pub mod Seen
pub mod Names
