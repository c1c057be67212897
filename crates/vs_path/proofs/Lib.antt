pub mod labelling
pub mod found
pub mod raised
pub mod correcting
pub mod CallerLemmas
