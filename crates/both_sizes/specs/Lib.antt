-- What holds of every size.
pub mod Facts
