-- What the judge of choppings says of the finest cut as it is put out.
pub mod Promises
