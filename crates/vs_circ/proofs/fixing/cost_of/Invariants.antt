use Rattle.std.proofs.Common.{◌≡◌, ◌≤ℤ◌, ◌*◌, map, pos}
use Rattle.std.specs.List.{range_with_len}
use Rattle.vs_instance.specs.Lagrangian.{total}
use Rattle.vs_circ.proofs.low.Costs.{cost_on}
use Rattle.vs_circ.proofs.fixing.cost_of.Given as goal

-- what the units of the arcs so far cost
abbrev pub invariant-loop-k : goal.invariant-loop-k
invariant-loop-k l = record {
  cost : l.cost ≡ total (map (cost_on l.net.graph.arcs l.flow.units.items) (range_with_len 0 l.k));
  low : pos 0 ≤ℤ l.cost;
  high : l.cost ≤ℤ pos (85899345920000000000000 * l.k);
}
