-- The starred trials pass.
pub mod Pass
