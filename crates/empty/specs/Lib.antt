-- The empty programs that have to break the keeper's statement.
pub mod Calls
pub mod Programs
pub mod Empty
