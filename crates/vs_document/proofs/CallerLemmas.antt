-- What crates above may cite of these proofs.
pub use Rattle.vs_document.proofs.alike.AlikeDocuments.{alike, same_table}
pub use Rattle.vs_document.proofs.alike.Suiting.{suits-read, suits-text}
pub use Rattle.vs_document.proofs.back.InstanceNames.{instance_names}
pub use Rattle.vs_document.proofs.back.ReadBack.{read_back}
pub use Rattle.vs_document.proofs.rows.RefusedOnce.{document_not_refused, refused_once}
pub use Rattle.vs_document.proofs.parts.PricePlaces.{neither}
