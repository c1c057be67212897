pub mod Emptying
pub mod Entries
pub mod Queuing
pub mod Records
pub mod Stacked
