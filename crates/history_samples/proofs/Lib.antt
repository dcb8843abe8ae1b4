-- What the definitions of demand 3 say of small runs.
pub mod Passes
