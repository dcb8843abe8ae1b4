-- What the test of the ranks is proved against, besides the rules.
pub mod Marks
