-- What a search found, and what is read of the caller that it found.
pub mod Founds
pub mod Named
pub mod Backs
