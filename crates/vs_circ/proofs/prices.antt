pub mod Walking
pub mod Leeways
pub mod Holding
pub mod NodeLimits
pub mod Passes
pub mod Entries
pub mod OfNodes
