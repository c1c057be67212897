use Rattle.std.proofs.Common.{◌≡◌, ◌≤◌, [], length, slice_index_or}
use Rattle.vs_tree.specs.Cuts.{AreLaid, sets_of}
use Rattle.vs_tree.proofs.places.lay_cuts.Given as goal

-- what is laid so far, and what the spot has, make up the layers of the first spot
abbrev pub invariant-loop-spot : goal.invariant-loop-spot
invariant-loop-spot l = record {
  within : l.spot ≤ length l.cuts;
  size : length l.sets ≡ length l.permitted;
  laid : AreLaid (slice_index_or (sets_of l.permitted l.cuts) l.k [])
      (slice_index_or (sets_of l.permitted l.cuts) l.spot [])
      l.sets;
}

abbrev pub decreases-loop-spot : goal.decreases-loop-spot
decreases-loop-spot l = l.spot
