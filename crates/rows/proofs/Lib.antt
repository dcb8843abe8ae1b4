-- Laws for the loops over rows.
pub mod Bits
pub mod Rewords
