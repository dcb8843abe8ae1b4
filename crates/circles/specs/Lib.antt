-- The waits as words of slots, and what the functions do to such words.
pub mod Links
pub mod Peel
pub mod Visits
