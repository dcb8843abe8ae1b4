-- A call as four words.
pub mod Calls
