pub mod FlowSums
pub mod Moves
pub mod PathBlocks
pub mod UnitSteps
pub mod Arriving
pub mod Dividing
