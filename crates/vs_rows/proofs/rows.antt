pub mod SplitLayers
pub mod SaysOnce
