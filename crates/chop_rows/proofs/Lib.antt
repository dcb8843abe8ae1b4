-- Pieces put together from rows, and written as words.
pub mod OneMore
pub mod Writing
pub mod Gathered
pub mod Stepping
