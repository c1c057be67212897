-- What a search that is carried on knows never gets less.
pub mod Strong
pub mod StrongTurns
pub mod StrongDocuments
