use Rattle.std.proofs.Common.{IfSome, ◌<◌, ◌+◌, vec_len}
use Rattle.vs_weights.proofs.layer_cuts.LayerCuts.lightest.Given as goal

abbrev pub invariant-loop-place : goal.invariant-loop-place
invariant-loop-place l = IfSome l.lightest (λ place. place + 1 < vec_len l.self.cuts)
