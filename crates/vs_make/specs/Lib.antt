pub mod Generator
pub mod Made
