pub mod ArcsOfNode
pub mod Listing
pub mod StepCosts
pub mod Lowering
pub mod Settling
pub mod Exploring
