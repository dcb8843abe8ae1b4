-- Laws of the keeper.
pub mod Admitted
