pub mod Nets
pub mod Greatest
pub mod Gains
pub mod Reading
pub mod Needs
pub mod Room
pub mod Suspects
