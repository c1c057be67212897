pub mod Balance
pub mod Shipments
pub mod Suiting
pub mod Leaving
pub mod Mirror
pub mod Gaps
pub mod Centring
pub mod Works
