pub mod Pairs
pub mod WayMap
pub mod Gathered
pub mod Pushed
pub mod LengthRows
pub mod ClosedLengths
