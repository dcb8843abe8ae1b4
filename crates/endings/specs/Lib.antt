-- What the parts ask of the tables, and what is left where a reader leaves.
pub mod Asked
