pub mod Replays
pub mod Making
pub mod Alike
pub mod Room
pub mod ReplayRows
pub mod Owed
pub mod Answered
pub mod Laws
