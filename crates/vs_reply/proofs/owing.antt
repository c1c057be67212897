-- What is answered is what is owed.
pub mod OwedAnswers
pub mod BlocksOwed
pub mod NamedPeakFlaws
pub mod PeaksOwed
