use Rattle.std.proofs.Common.{ℕ, ◌*◌, ◌<◌, slice_index_or}
use Rattle.vs_weights.specs.Layers.{IsLike}
use Rattle.vs_cuts.specs.Numbers.{IsNear}
use Rattle.vs_weights.specs.declared.standing.Standing.{Standing}
use Rattle.vs_cuts.specs.declared.whole.TheConstants.{MOST_LACK}
use Rattle.vs_weights.proofs.layer_cuts.LayerCuts.set_slopes.Given as goal

abbrev pub invariant-loop-place : goal.invariant-loop-place
invariant-loop-place l = record {
  like : IsLike l.fn.self l.self;
  slopes : (k : ℕ) (d : Standing) → k < l.place
      → IsNear (l.fn.self.trips * MOST_LACK) (slice_index_or l.self.standings.items k d).slope;
}
