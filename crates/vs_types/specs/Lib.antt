pub mod LayerSet
pub mod Parts
