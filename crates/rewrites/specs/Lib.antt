-- What the rewriting of all rows is proved against, besides the rules.
pub mod Written
