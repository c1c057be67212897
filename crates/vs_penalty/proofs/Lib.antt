pub mod ShownPlans
pub mod EvenMultipliers
pub mod ShownRays
pub mod CallerLemmas
pub mod Between
pub mod OneSet
pub mod Quotients
