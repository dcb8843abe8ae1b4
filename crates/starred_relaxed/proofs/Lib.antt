-- The trials of request E11 pass.
pub mod Pass
