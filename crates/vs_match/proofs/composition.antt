pub mod Takings
pub mod UnitsTaken
pub mod NetEnds
pub mod Runs
pub mod Rounds
pub mod Composing
pub mod Aggregating
