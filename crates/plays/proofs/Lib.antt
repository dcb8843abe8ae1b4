-- How a trial is computed.
pub mod Computed
pub mod Tested
