-- Units sent along paths.
pub mod Paths
pub mod Carrying
pub mod Sending
pub mod Shipping
pub mod Listing
pub mod Suiting
pub mod Keeping
