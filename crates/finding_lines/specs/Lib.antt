-- The line of what was found of a chopping.
pub mod Lines
