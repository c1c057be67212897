-- What is owed is one thing.
pub mod OneAnswer
pub mod SolveStatus
pub mod SearchesAgree
pub mod ResumeStatus
pub mod TraceStatus
