use Rattle.vs_weights.specs.Layers.{IsLike}
use Rattle.vs_weights.proofs.layer_cuts.LayerCuts.mix_products.Given as goal

abbrev pub invariant-loop-other : goal.invariant-loop-other
invariant-loop-other l = IsLike l.fn.self l.self
