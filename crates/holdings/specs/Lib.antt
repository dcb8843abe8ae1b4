-- What the test of the locks is proved against, besides the rules.
pub mod Holding
