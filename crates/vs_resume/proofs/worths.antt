-- What leaves are worth: the least of all, and the better of two tables.
pub mod BoundOrder
pub mod LeastWorths
pub mod Settled
pub mod Settling
pub mod Counts
pub mod NamedWorths
pub mod OpenClaims
