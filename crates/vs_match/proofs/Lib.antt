pub mod order
pub mod events
pub mod matches
pub mod walks
pub mod decomposition
pub mod composition
pub mod CallerLemmas
