pub mod NameLemmas
pub mod NumberedNames
pub mod NamedLayers
