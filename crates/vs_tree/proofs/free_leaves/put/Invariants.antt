use Rattle.std.proofs.Common.{◌≡◌, ◌≢◌, ℕ, ◌*◌, ◌/◌, ◌<◌, length, set, drop}
use Rattle.vs_tree.specs.Free.{IsPlayed}
use Rattle.vs_tree.proofs.free_leaves.put.Given as goal

-- only the match above the place is still to be played
abbrev pub invariant-loop-place : goal.invariant-loop-place
invariant-loop-place l = record {
  some : 0 < l.place;
  within : l.place < 2 * l.count;
  size : length l.entries ≡ 2 * l.count;
  played : (k : ℕ) → 0 < k → k < l.count → k ≢ l.place / 2 → IsPlayed l.entries k;
  leaves : drop l.count l.entries ≡ set (drop l.count l.fn.entries) l.fn.spot l.fn.entry;
}

abbrev pub decreases-loop-place : goal.decreases-loop-place
decreases-loop-place l = l.place
