use Rattle.std.proofs.Common.{IfSome, ◌<◌, vec_len}
use Rattle.vs_weights.proofs.layer_cuts.LayerCuts.nearest_without.Given as goal

abbrev pub invariant-loop-place : goal.invariant-loop-place
invariant-loop-place l = IfSome l.nearest (λ place. place < vec_len l.self.cuts)
