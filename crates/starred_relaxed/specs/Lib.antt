-- The trials of request E11.
pub mod Relaxed
