-- How input is cut into lines.
pub mod Lines
