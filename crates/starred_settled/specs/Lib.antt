-- The trials of request E6.
pub mod Settled
