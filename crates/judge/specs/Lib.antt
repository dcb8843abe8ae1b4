-- What the judge says of a whole file, and what it keeps while it sees a call at a time.
pub mod Verdicts
pub mod Pieces
