-- What the test of the sets is proved against, besides the rules.
pub mod Joined
