-- What lies at the nodes, against what the units gained on their ways.
pub mod Numbers
pub mod Weighed
pub mod Gained
pub mod Weights
pub mod AtMost
pub mod InOrder
pub mod Conserved
pub mod Cuts
pub mod Leaving
pub mod Sums
