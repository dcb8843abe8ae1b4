-- Laws of peeling and of the search.
pub mod Within
pub mod Peeling
pub mod Visiting
pub mod Closing
