-- What a search asks of the transactions.
pub mod Searchable
