-- What the machine is handed of a file, and what it keeps of it.
pub mod Counted
pub mod Handed
