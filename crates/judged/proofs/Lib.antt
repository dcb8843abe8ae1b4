-- Laws of the judging.
pub mod Exits
