-- What a worker knows of a search that it shares with others.
pub mod Keeping
pub mod Histories
pub mod Turns
pub mod Ending
pub mod Joined
pub mod FirstSeats
pub mod Closing
