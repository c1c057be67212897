pub mod LayerFlaws
pub mod ProvenPeaks
pub mod problem
pub mod rows
pub mod alike
pub mod CallerLemmas
