-- Request E9: the judge of choppings, after source document 004, section 3.
pub mod Pieces
pub mod Circles
pub mod Verdicts
pub mod Judgement
pub mod Linked
pub mod Promises
