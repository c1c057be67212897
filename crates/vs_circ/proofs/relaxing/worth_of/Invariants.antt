use Rattle.std.proofs.Common.{◌≡◌, ◌*◌, map, pos}
use Rattle.std.specs.List.{range_with_len}
use Rattle.vs_instance.specs.Lagrangian.{total}
use Rattle.vs_path.specs.Residual.{IsWithin}
use Rattle.vs_circ.specs.shipping.Values.{worth_on}
use Rattle.vs_circ.proofs.relaxing.worth_of.Given as goal

-- what the units of the arcs so far cost, which is never much
abbrev pub invariant-loop-k : goal.invariant-loop-k
invariant-loop-k l = record {
  worth : l.worth ≡ total (map (worth_on l.cost l.units) (range_with_len 0 l.k));
  within : IsWithin (pos (515396075520000000000000 * l.k)) l.worth;
}
