-- Laws of a row of versions, and of the search in it.
pub mod Lent
pub mod Read
pub mod Halvings
pub mod Halved
pub mod Handed
