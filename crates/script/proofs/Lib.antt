-- Laws of the script.
pub mod Scans
pub mod Spoken
pub mod RoundTrip
pub mod Held
pub mod Chunks
pub mod Turns
pub mod Examples
