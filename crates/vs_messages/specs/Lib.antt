pub mod Reasons
pub mod Given
pub mod Told
