pub mod CallerLemmas
pub mod Cuts
pub mod Parts
pub mod Rows
