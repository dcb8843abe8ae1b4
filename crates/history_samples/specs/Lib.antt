-- Small runs on which the definitions of demand 3 are computed.
pub mod Samples
