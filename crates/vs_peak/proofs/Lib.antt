pub mod FoundPeaks
pub mod ClaimedPeaks
pub mod WrittenPeaks
pub mod WrittenSays
pub mod PlainRows
pub mod ReadBack
pub mod PeaksOwed
pub mod CallerLemmas
