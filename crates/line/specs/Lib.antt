-- Request E4's promise over runs.
pub mod InOrder
pub mod Served
