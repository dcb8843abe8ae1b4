-- What the contracts say of the ranks.
pub mod Lines
