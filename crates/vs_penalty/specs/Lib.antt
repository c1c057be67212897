pub mod Means
pub mod Rays
pub mod Seekers
pub mod Slow
