-- Small runs on which the graph of the textbooks is computed.
pub mod Samples
