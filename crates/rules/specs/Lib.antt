-- Document 01, in its order: the tables, when they are good, the calls (its six, the seventh of request E6, the eighth of request
-- E11), what comes back. Then what is promised of them.
pub mod Words
pub mod Tables
pub mod Versions
pub mod Waits
pub mod Good
pub mod Tested
pub mod Locks
pub mod Answers
pub mod Step
pub mod Conditions
pub mod Changed
pub mod Promises
