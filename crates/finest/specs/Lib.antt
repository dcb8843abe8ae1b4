-- Request E10: the finest cut, after source document 004, section 4.
pub mod Operations
pub mod Finest
pub mod Choppings
pub mod Chains
pub mod Rows
pub mod Promises
