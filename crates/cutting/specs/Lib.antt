-- What a chopping's text comes to, what is put out of it, and the program's life.
pub mod Chopping
pub mod Told
pub mod Life
