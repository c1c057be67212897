-- Units before and after they are sent.
pub mod Offering
pub mod Preparing
pub mod SmallArcs
pub mod SmallSteps
pub mod Settling
pub mod Changing
pub mod Refitting
pub mod Stuck
pub mod Supplying
pub mod Covering
pub mod Fixing
pub mod Relaxed
pub mod Running
pub mod Costing
pub mod Readying
