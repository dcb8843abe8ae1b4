-- The trials of request E4.
pub mod Waiters
