-- What crates above cite of the proofs.
pub use Rattle.vs_circ.proofs.low.LayerBounds.{multiplier_of-offer, not_run}
pub use Rattle.vs_circ.proofs.low.Reindexing.{over_range, total-none, total-only, total-same, total-swap}
pub use Rattle.vs_circ.proofs.low.Covered.{run_exactly}
