-- What the test of the stamps is proved against, besides the rules.
pub mod Stamped
