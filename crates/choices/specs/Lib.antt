-- What the search for a version is proved against, besides the rules.
pub mod Pairs
pub mod SoundRow
pub mod Choosable
pub mod Looks
