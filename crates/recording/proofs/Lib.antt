-- Laws of what is recorded.
pub mod Taking
pub mod Answering
