-- What a pass over words is proved against.
pub mod Zeros
pub mod Below
