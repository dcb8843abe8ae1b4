-- Between calls and four words: each the other's inverse, and within what bounds.
pub mod Inverse
pub mod Fitting
