-- Each small chopping has its verdict.
pub mod Computed
