-- A journal is read back as it was written, and whole bytes are the journal of what is read from them.
pub mod Lists
pub mod WordLaws
pub mod RecordLaws
pub mod Sections
pub mod RoundTrip
pub mod Back
pub mod Examples
