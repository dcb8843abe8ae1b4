-- The trials of request E2.
pub mod Quotas
