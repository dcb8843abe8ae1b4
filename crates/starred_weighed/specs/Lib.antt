-- The trials of request E8.
pub mod Weighed
