-- Small runs in which updates wait in line.
pub mod Samples
