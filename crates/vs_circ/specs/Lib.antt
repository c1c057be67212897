pub mod Offers
pub mod LayerPrices
pub mod Circulations
pub mod PricedFlows
pub mod Laws
pub mod shipping
pub mod node_prices
