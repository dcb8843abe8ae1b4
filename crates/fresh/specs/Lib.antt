-- What the contracts say of filled tables.
pub mod Made
