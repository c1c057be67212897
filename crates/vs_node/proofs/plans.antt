-- What all layers run of trips that have one layer each.
pub mod LayerBlocks
pub mod Done
pub mod FixedLayers
pub mod SettledPlans
