-- Small programs and the finest cut of each.
pub mod Programs
pub mod Rows
