-- Laws of words as the code handles them: loops that test words, zero words, words of slots.
pub mod Turns
pub mod ZeroWords
pub mod SlotWords
pub mod Slots
pub mod Searches
