-- What the row writer is proved against, besides the rules.
pub mod Changed
pub mod Moved
