-- What crates above cite of the proofs.
pub use Rattle.vs_cuts.proofs.Cuts.{kept_trips}
pub use Rattle.vs_cuts.proofs.Rows.{entry_read}
