use Rattle.std.proofs.Common.{◌≡◌}
use Rattle.vs_weights.specs.Layers.{IsLike}
use Rattle.vs_weights.proofs.layer_cuts.LayerCuts.settle.Given as goal

abbrev pub invariant-loop-place : goal.invariant-loop-place
invariant-loop-place l = record {
  like : IsLike l.fn.self l.self;
  trips : l.lacking.free.trips ≡ l.fn.lacking.free.trips;
}
