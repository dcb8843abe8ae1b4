-- What a text of whole programs comes to, what is put out of it, and the program's life.
pub mod Programs
pub mod Told
pub mod Life
