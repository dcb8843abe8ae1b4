-- What the waits are proved against, besides the rules.
pub mod Waiting
