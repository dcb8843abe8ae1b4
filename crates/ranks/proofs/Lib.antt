-- Laws for the lines of waiters.
pub mod Ranks
