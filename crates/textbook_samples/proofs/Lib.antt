-- What the graph of small runs is.
pub mod Passes
