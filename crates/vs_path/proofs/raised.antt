pub mod RaisingUpTo
pub mod RaisedPrices
