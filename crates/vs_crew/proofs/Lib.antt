pub mod CallerLemmas
pub mod Crews
pub mod RowsRun
pub mod leaves
pub mod others
