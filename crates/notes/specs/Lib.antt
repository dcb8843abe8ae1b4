-- What the words of relaxed queries are proved against, besides the rules.
pub mod Kinds
