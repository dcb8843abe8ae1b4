-- Laws of lines.
pub mod Holding
pub mod Cutting
pub mod Examples
