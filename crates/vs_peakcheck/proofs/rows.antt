pub mod OtherKinds
pub mod PriceKinds
pub mod PricedRows
pub mod RowParts
pub mod ReadLayers
pub mod OneReading
pub mod RefusedOnce
