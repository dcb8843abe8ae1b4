-- Text written over lent bytes.
pub mod Written
