pub mod ListParts
pub mod RowPlaces
pub mod RowBuilderLemmas
pub mod RecordFields
