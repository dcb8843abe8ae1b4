-- Laws of the test of the stamps.
pub mod Stamps
