-- What the runner replies, and its life from the first byte to the last.
pub mod Replies
pub mod Life
