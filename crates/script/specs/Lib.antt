-- What the lines of a script say, and what they are read as.
pub mod Words
pub mod Says
pub mod Parse
pub mod Inputs
