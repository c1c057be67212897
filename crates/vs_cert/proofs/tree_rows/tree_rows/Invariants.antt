use Rattle.std.proofs.Common.{◌≡◌, ◌+◌, ◌*◌, ◌-◌, length}
use Rattle.vs_tree.specs.History.{count_spots, is_inner}
use Rattle.vs_tree.specs.Search.{state}
use Rattle.vs_cert.proofs.states.Waiting.{AreUnderway}
use Rattle.vs_cert.proofs.tree_rows.tree_rows.Given as goal

-- the rows so far are written, and the spots of those to come wait
abbrev pub invariant-loop-k : goal.invariant-loop-k
invariant-loop-k l = record {
  underway : AreUnderway l.tree.opening (state l.tree) l.spots.items l.numbering.numbers l.rows.items;
  limit : l.numbering.limit ≡ length (state l.tree).tables;
}

-- the rows to come
abbrev pub decreases-loop-k : goal.decreases-loop-k
decreases-loop-k l = 2 * count_spots is_inner (state l.tree).places + 1 - length l.rows.items
