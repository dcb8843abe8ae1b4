-- Laws of a line of a chopping.
pub mod Items
pub mod Noting
pub mod Lines
pub mod Whole
pub mod Spoken
pub mod Only
pub mod Comments
pub mod Examples
