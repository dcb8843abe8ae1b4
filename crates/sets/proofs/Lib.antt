-- Laws of the sets of later updates.
pub mod Testing
pub mod Tied
