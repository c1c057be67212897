pub mod Peaks
pub mod Writing
pub mod Laws
pub mod Owed
pub mod Answered
