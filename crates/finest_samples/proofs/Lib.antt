-- Each small program has its finest cut.
pub mod Computed
