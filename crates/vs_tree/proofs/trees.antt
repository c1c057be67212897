pub mod Relabelled
pub mod Parts
pub mod Grown
pub mod Leaves
pub mod Histories
