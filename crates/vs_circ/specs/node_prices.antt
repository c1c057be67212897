-- Prices of the nodes of a net, and those of a layer that are made from them.
pub mod NodePrices
pub mod Leeways
pub mod PriceTables
