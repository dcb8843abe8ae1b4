-- Laws for the loops over words and over rows; what is made of tables of the exact sizes.
pub mod Filling
pub mod Exact
