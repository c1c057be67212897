pub mod CsvRecords
pub mod LeftLemmas
pub mod HeaderLemmas
pub mod TextLemmas
pub mod LineLemmas
pub mod Progress
