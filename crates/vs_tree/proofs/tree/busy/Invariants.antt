use Rattle.std.proofs.Common.{◌≡◌, ◌≤◌, count_by, take}
use Rattle.vs_tree.specs.Search.{is_busy}
use Rattle.vs_tree.proofs.tree.busy.Given as goal

abbrev pub invariant-loop-hand : goal.invariant-loop-hand
invariant-loop-hand l = record {
  count : l.busy ≡ count_by is_busy (take l.hand-index l.hands);
  few : l.busy ≤ l.hand-index;
}
