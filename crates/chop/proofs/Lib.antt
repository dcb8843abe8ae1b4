-- Laws of choppings: rows of words, links, the search for a circle, and the theorems.
pub mod InRows
pub mod Told
pub mod Verdicts
pub mod Joining
pub mod Closing
pub mod Around
pub mod Shown
pub mod Found
pub mod Linking
pub mod Refusing
pub mod Theorems
