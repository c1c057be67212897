-- Tables of prices, layer by layer, and how what they are worth compares.
pub mod Comparing
pub mod Keeping
pub mod TablePrices
pub mod LayerValues
pub mod RayTables
