-- Document 01, demand 3 (Runs, Happened, Serial, Undisturbed; for relaxed queries Relaxed), what stands beside it, and what a query's end answers (Weighed).
pub mod Runs
pub mod Happened
pub mod Serial
pub mod Undisturbed
pub mod Relaxed
pub mod Ended
pub mod Weighed
pub mod Numbers
pub mod Beside
