-- The lock decision's words.
pub mod Cells
