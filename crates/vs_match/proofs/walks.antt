pub mod ClosedWays
pub mod WalkBounds
pub mod WaitingChains
pub mod Matched
pub mod Rested
pub mod WalkLaws
pub mod Lawful
