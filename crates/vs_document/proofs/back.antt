pub mod InstanceNames
pub mod ReadBack
