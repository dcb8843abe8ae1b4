-- Laws of the pass over the transaction rows.
pub mod Masks
pub mod Seeing
pub mod Passed
