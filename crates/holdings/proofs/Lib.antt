-- Laws of the pass over the locks.
pub mod Holders
pub mod Counting
pub mod Quotas
