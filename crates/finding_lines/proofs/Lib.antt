-- Laws of the line of what was found.
pub mod Printed
