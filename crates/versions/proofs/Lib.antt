-- Laws of the test of the version table.
pub mod Merge
pub mod Walk
pub mod NoneHidden
pub mod Rowed
pub mod Same
