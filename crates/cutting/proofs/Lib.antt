-- Laws of a chopping's text.
pub mod Rows
pub mod Lines
pub mod Seeing
pub mod Verdicts
pub mod Saying
pub mod Examples
