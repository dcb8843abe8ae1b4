-- Laws of a read and of a write.
pub mod Conflicts
pub mod Exits
