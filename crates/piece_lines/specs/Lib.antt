-- What a line of a chopping says: the grammar, how it is read, and what is kept of one that is not ended.
pub mod Says
pub mod Read
pub mod Items
pub mod Held
