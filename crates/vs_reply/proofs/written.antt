-- Rows that are written, part by part and one behind the other.
pub mod RowsInParts
pub mod RestRows
pub mod NetworkRows
pub mod WrittenFields
