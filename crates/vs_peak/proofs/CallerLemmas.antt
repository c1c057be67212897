-- What crates above cite of these proofs.
pub use Rattle.vs_peak.proofs.FoundPeaks.{least_found, none_found}
pub use Rattle.vs_peak.proofs.ReadBack.{read_back}
pub use Rattle.vs_peak.proofs.WrittenSays.{text_says}
pub use Rattle.vs_peak.proofs.PeaksOwed.{one_peak_status}
