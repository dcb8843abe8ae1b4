-- What is put out is the journal of the run.
pub mod Fitting
pub mod Input
pub mod Pieces
pub mod Journal
