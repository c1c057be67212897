-- Trees of cases and their rows: parts in the place of leaves, and rows gone over one by one.
pub mod Zips
pub mod InPlace
pub mod Outlines
pub mod Renamed
pub mod RowWalks
pub mod RowSteps
pub mod Within
pub mod Growth
