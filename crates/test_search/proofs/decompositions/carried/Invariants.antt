use Rattle.std.proofs.Common.{◌≡◌, ◌*◌, ◌≤◌, get_or, take}
use Rattle.std.specs.List.{sum_by}
use Rattle.test_search.proofs.decompositions.carried.Given as goal

abbrev pub invariant-loop-k : goal.invariant-loop-k
invariant-loop-k l = record {
  is : l.sum ≡ sum_by (λ k. get_or l.flow.units.items k 0) (take l.k-index l.arcs);
  few : l.sum ≤ 4294967295 * l.k-index;
}
