-- What a deed asks of the tables that it is done on.
pub mod Able
