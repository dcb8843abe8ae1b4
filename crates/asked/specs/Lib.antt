-- What is asked of the tables for a wait, and the deed that is found.
pub mod Asks
pub mod Deeds
