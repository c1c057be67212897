-- What a change of a layer's cuts leaves.
use Rattle.std.specs.Prelude.{◌≡◌, vec_len}
use Rattle.vs_weights.specs.declared.layer_cuts.LayerCuts.{LayerCuts}

-- there are as many places and as many trips
pub record IsLike (old new : LayerCuts) : Type 0 where
  pub places : vec_len new.cuts ≡ vec_len old.cuts
  pub trips : new.trips ≡ old.trips
