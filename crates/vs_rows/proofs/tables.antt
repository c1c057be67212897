pub mod ErrorsPass
pub mod PriceRows
pub mod PriceReading
pub mod LayerReading
pub mod Standing
pub mod BlockReading
pub mod Passing
