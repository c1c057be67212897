pub mod SamePlaces
pub mod TreeReading
pub mod BlockReading
pub mod PricePlaces
pub mod TableReading
pub mod WholeDocument
