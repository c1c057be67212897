-- What a document begins with, and the one that is written.
pub mod OnCourse
pub mod Begun
pub mod FirstTimes
pub mod WrittenTables
pub mod WrittenLeaves
pub mod Naming
pub mod TurnCounts
pub mod LowWorths
pub mod Taking
pub mod Resumed
pub mod WrittenOnce
pub mod EnoughNodes
