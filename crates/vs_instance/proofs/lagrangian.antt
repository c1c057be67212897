pub mod Decided
pub mod FiniteLists
pub mod DecidedBlocks
pub mod Lows
pub mod LayersOfPlan
pub mod Values
