pub mod RowKinds
pub mod BoundBesideCost
pub mod AcceptedRows
pub mod ReadThrough
pub mod RefusedOnce
