-- What the small runs are answered, and what follows for the promise.
pub mod Computed
pub mod Needed
