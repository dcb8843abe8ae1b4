-- What a line of whole programs says: the grammar, how it is read, and what is kept of one that is not ended.
pub mod Says
pub mod Read
pub mod Held
