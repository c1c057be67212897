pub mod Bytes
pub mod Edge
pub mod Faults
pub mod Memory
