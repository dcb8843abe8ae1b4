-- What a case is, and the line of its answer.
pub mod Cases
