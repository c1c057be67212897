pub mod KindLemmas
pub mod RowsSayOne
pub mod DeclaredLemmas
pub mod DeclaredParts
pub mod RuleLemmas
pub mod RefusedLemmas
pub mod NumberLemmas
