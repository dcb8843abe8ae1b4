-- The life of the machine that answers cases.
pub mod Life
