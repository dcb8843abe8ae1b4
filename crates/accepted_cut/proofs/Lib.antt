-- What is put out is read back, and accepted.
pub mod Clean
pub mod Lines
pub mod Relinked
pub mod Numbers
pub mod Sets
pub mod Reading
pub mod Judged
pub mod Theorems
