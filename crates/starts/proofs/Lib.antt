-- Laws of the starts in order and of the neighbours of a stamp, and of all who read versions.
pub mod Split
pub mod Between
pub mod Fill
pub mod Tells
