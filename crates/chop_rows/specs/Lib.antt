-- Request E9 on rows of four words: the pieces that stand in them, and the judgement.
pub mod RowPieces
pub mod Notes
pub mod Promises
