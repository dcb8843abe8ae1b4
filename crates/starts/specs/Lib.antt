-- What the starts in order, and the neighbours of a stamp, are proved against.
pub mod Starts
pub mod Ordered
pub mod Beside
