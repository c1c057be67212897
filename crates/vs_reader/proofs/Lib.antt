pub mod texts
pub mod naming
pub mod places
pub mod declaring
pub mod CallerLemmas
