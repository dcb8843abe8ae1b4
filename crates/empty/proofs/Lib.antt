-- No empty program meets what the keeper promises.
pub mod Runs
pub mod Refuted
pub mod Nearly
