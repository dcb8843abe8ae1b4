-- Laws of the deeds.
pub mod Deeds
