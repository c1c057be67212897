use Rattle.std.proofs.Common.{vec_len}
use Rattle.vs_weights.specs.Steps.{ArePeaksOf}
use Rattle.vs_weights.proofs.layer_cuts.LayerCuts.peaks.Given as goal

abbrev pub invariant-loop-place : goal.invariant-loop-place
invariant-loop-place l = ArePeaksOf (vec_len l.self.cuts) l.peaks
