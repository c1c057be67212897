pub mod PieceLemmas
pub mod Rates
pub mod Links
pub mod BlockPieces
pub mod Totals
pub mod TripsOfBlocks
pub mod LayerDuality
pub mod DearestPieces
