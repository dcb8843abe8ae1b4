-- Laws of lines of numbers.
pub mod Scanned
pub mod Read
pub mod Only
pub mod Printed
