-- Laws of lines counted, of the input so far, of names and of texts.
pub mod Counting
pub mod Seeing
pub mod Texts
pub mod Names
