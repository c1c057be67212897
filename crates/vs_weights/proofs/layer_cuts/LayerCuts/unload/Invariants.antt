use Rattle.vs_weights.specs.Layers.{IsLike}
use Rattle.vs_weights.proofs.layer_cuts.LayerCuts.unload.Given as goal

abbrev pub invariant-loop-place : goal.invariant-loop-place
invariant-loop-place l = IsLike l.fn.self l.self
