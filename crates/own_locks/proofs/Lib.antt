-- Laws for the loops over all items.
pub mod Releases
