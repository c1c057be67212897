use Rattle.vs_weights.specs.Layers.{IsLike}
use Rattle.vs_cuts.specs.Numbers.{IsPart}
use Rattle.vs_weights.proofs.layer_cuts.LayerCuts.withhold.Given as goal

abbrev pub invariant-loop-place : goal.invariant-loop-place
invariant-loop-place l = record {
  like : IsLike l.fn.self l.self;
  weight : IsPart l.weight;
}
