-- The line of each verdict.
pub mod Said
