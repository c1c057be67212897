pub mod ArcsAt
pub mod Starts
pub mod Placed
pub mod CallerLemmas
