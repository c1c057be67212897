pub mod AlikeDocuments
pub mod Suiting
