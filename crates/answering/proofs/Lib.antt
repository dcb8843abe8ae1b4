-- Laws of the machine that answers cases.
pub mod Lengths
pub mod Answering
pub mod Keeping
pub mod Lived
