pub mod balance
pub mod shipping
pub mod prices
pub mod CallerLemmas
