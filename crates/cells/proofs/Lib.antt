-- Whether others hold a lock, and the cell that was found.
pub mod Others
