-- Laws of a line of whole programs.
pub mod Noting
pub mod Lines
pub mod Whole
pub mod Spoken
pub mod Only
pub mod Examples
