-- What the test of the transaction rows is proved against, besides the rules.
pub mod Shape
