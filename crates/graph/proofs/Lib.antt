-- Laws of sets of vertices, and of the ways along links.
pub mod Sets
pub mod Counted
pub mod Ways
pub mod Settling
pub mod Paths
pub mod Laying
