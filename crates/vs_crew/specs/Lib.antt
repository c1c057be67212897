pub mod Sharing
pub mod Found
pub mod Leaves
pub mod Crew
pub mod Codes
pub mod Workers
pub mod Calls
