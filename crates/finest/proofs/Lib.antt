-- The finest cut is accepted, and is the finest.
pub mod InRows
pub mod Writing
pub mod Passing
pub mod Linking
pub mod Together
pub mod Pieces
pub mod Reached
pub mod Judging
pub mod Unions
pub mod Accepting
pub mod Classes
pub mod Fitting
pub mod Theorems
