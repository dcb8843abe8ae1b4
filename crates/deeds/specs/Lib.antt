-- What the parts ask of the tables, and what a grant writes.
pub mod Asked
