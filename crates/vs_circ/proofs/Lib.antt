pub mod shipping
pub mod low
pub mod prices
pub mod CallerLemmas
