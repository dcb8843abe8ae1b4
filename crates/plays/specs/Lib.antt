-- What a trial is.
pub mod Plays
