pub mod LinesAppend
pub mod WrittenRows
pub mod WrittenParts
pub mod PriceRanges
pub mod WrittenForms
pub mod PlainFields
pub mod WrittenPlain
