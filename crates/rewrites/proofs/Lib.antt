-- Laws of the version table while its rows are rewritten.
pub mod Table
pub mod Kept
pub mod Forgotten
pub mod Committed
pub mod Shown
pub mod Handed
