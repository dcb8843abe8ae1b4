-- Laws of a row that is rewritten in place.
pub mod Shifts
pub mod Words
pub mod Test
pub mod Reveals
