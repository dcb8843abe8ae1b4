-- Laws of the endings.
pub mod Endings
pub mod Queries
pub mod Settled
