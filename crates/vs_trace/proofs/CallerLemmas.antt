-- What crates above may cite of these proofs.
pub use Rattle.vs_trace.proofs.Holders.{holders, same_holder}
pub use Rattle.vs_trace.proofs.MadeTraces.{written_traces_stand}
pub use Rattle.vs_trace.proofs.AlikeTraces.{traces_alike}
pub use Rattle.vs_trace.proofs.RefusedOnce.{trace_not_refused, trace_refused_once}
