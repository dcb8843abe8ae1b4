-- What the definition of a verdict says of small files.
pub mod Samples
