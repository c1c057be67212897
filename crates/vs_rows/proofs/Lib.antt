pub mod Lists
pub mod TreeRows
pub mod words
pub mod rows
pub mod refused
pub mod tables
pub mod written
pub mod CallerLemmas
