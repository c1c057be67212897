use Rattle.std.proofs.Common.{◌≡◌, ◌*◌, ℕ, ℤ, ◌<◌, get_or, map, pos}
use Rattle.std.specs.List.{range_with_len}
use Rattle.vs_layer.specs.Graph.{arc_of}
use Rattle.vs_instance.specs.declared.limits.TheConstants.{MAX_FLEET}
use Rattle.vs_instance.specs.Lagrangian.{total}
use Rattle.vs_path.specs.Residual.{AllWithin}
use Rattle.vs_ship.specs.Balance.{weighed}
use Rattle.vs_ship.specs.Suiting.{DoSuit, worth_less}
use Rattle.vs_ship.proofs.balance.AtMost.{gained_on}
use Rattle.vs_ship.proofs.fitting.suit.Given as goal

-- the units of the arcs so far suit them, and what they leave is set
abbrev pub invariant-loop-k : goal.invariant-loop-k
invariant-loop-k l = record {
  suits : (j : ℕ) → j < l.k
      → DoSuit (worth_less l.net l.costs.cost.items l.prices j) (get_or l.costs.room.items j 0) (arc_of l.net j).room
      (get_or l.units j 0);
  balanced : (weight : ℕ → ℤ)
      → weighed weight l.surplus ≡ total (map (gained_on weight l.net.arcs l.units) (range_with_len 0 l.k));
  even : total l.surplus ≡ pos 0;
  within : AllWithin (pos (2 * MAX_FLEET * l.k)) l.surplus;
}
