pub mod sets
pub mod tables
pub mod plans
pub mod searches
pub mod CallerLemmas
