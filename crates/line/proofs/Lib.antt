-- Why who waits in line is served.
pub mod Kept
pub mod InOrder
pub mod Outsiders
pub mod Ends
pub mod Locking
pub mod Turns
pub mod Readers
pub mod Served
