-- What crates above cite of these proofs.
pub use Rattle.vs_reader.proofs.declaring.DeclaredLemmas.{IsSound-nothing, one_AddAll}
pub use Rattle.vs_reader.proofs.declaring.NumberLemmas.{digits_short, numerals}
pub use Rattle.vs_reader.proofs.declaring.RefusedLemmas.{AreAllNames-nothing, breaks_refutes}
pub use Rattle.vs_reader.proofs.declaring.RuleLemmas.{most_in-≤}
pub use Rattle.vs_reader.proofs.naming.NameLemmas.{name_byte_below}
pub use Rattle.vs_reader.proofs.texts.HeaderLemmas.{one_version}
pub use Rattle.vs_reader.proofs.texts.LineLemmas.{lines_behind, stands_behind}
pub use Rattle.vs_reader.proofs.texts.TextLemmas.{one_reading, one_rows, refused_none, stands_counts}
