-- The judge says what the definition of a verdict says, however the file is cut into pieces; what a run gives is accepted, and
-- nothing else.
pub mod Speaking
pub mod Steps
pub mod Turns
pub mod Lockstep
pub mod Said
pub mod Streamed
pub mod Judged
pub mod Runs
pub mod Fitting
pub mod OnlyRuns
pub mod Examples
