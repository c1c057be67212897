-- What the work on leaves does for a search.
pub mod Begun
pub mod Nexts
pub mod WorkedSearches
