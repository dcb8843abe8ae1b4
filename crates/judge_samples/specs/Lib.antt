-- Small files and the verdict on each.
pub mod Samples
