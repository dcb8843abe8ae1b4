-- What is recorded of a script.
pub mod Records
