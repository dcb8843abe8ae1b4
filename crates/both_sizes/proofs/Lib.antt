-- That it holds, and that what is asked of the sizes is needed.
pub mod Holds
pub mod Needed
