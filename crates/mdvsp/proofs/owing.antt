-- What is answered is what is owed.
pub mod SearchOwed
pub mod RunEnds
pub mod TrialOwed
pub mod ResumeOwed
pub mod TraceOwed
