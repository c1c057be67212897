pub mod Multipliers
pub mod Offers
pub mod Steps
pub mod Exchanges
pub mod Rounds
pub mod Raising
