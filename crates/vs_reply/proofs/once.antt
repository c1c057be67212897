-- What is owed is one thing.
pub mod OneCase
pub mod OneClaim
pub mod OneAnswer
