pub mod Orders
pub mod StrictOrders
pub mod KindOrder
pub mod ArcOrder
pub mod RightArcs
pub mod SortedKeys
