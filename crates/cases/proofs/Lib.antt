-- Laws of cases.
pub mod Cased
