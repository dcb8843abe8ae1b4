-- Laws of the test of all tables.
pub mod Reading
pub mod Whole
