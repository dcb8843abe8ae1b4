-- Trial I: a full row of versions.
pub mod FullRow
