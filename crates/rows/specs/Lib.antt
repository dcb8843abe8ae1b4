-- What the contracts say of the rows' structs.
pub mod Founds
