-- What was handed over and put out in each pass.
pub mod First
pub mod Second
