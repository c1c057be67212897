-- Units on their way along the arcs of a net.
pub mod Prepared
pub mod Settled
pub mod Refitted
pub mod Ready
pub mod Supplied
pub mod Values
pub mod Costing
