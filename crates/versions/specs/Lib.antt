-- What the test of the version table is proved against, besides the rules.
pub mod Rows
