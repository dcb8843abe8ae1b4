-- What passes.
pub mod Pass
