pub mod heap
pub mod CallerLemmas
