-- Laws of the waits as words of slots.
pub mod Marks
pub mod Blocking
pub mod Linking
pub mod Rounds
pub mod Handed
