-- Laws of decimal numbers.
pub mod Scans
pub mod Numerals
pub mod Decimals
pub mod Examples
