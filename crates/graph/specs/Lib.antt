-- Links among at most 64 vertices, and the ways along them.
pub mod Sets
pub mod Ways
pub mod Near
