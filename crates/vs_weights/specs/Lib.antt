pub mod Bundles
pub mod Layers
pub mod Shares
pub mod Steps
