-- Laws of text in lent bytes.
pub mod Places
pub mod Written
pub mod Parts
pub mod Buffers
