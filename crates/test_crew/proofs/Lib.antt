pub mod LeavesTaken
pub mod Searches
