-- Small choppings and the verdict on each.
pub mod Pieces
pub mod Rows
