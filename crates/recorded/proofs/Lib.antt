-- Whatever script is recorded, the judge accepts its journal.
pub mod Accepted
