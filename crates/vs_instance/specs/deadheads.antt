pub mod WayMap
pub mod Lengths
