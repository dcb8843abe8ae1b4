-- Laws of the runner.
pub mod Replied
pub mod Answering
pub mod Keeping
pub mod Lived
