use Rattle.std.proofs.Common.{◌≡◌, ◌*◌, ℕ, ℤ, map, pos}
use Rattle.std.specs.List.{range_with_len}
use Rattle.vs_instance.specs.declared.limits.TheConstants.{MAX_FLEET}
use Rattle.vs_instance.specs.Lagrangian.{total}
use Rattle.vs_path.specs.Residual.{AllWithin}
use Rattle.vs_ship.specs.Balance.{weighed}
use Rattle.vs_ship.proofs.balance.AtMost.{gained_on}
use Rattle.vs_ship.proofs.leaving.leave.Given as goal

-- what the units of the arcs so far leave
abbrev pub invariant-loop-k : goal.invariant-loop-k
invariant-loop-k l = record {
  balanced : (weight : ℕ → ℤ)
      → weighed weight l.surplus ≡ total (map (gained_on weight l.net.arcs l.units) (range_with_len 0 l.k));
  even : total l.surplus ≡ pos 0;
  within : AllWithin (pos (2 * MAX_FLEET * l.k)) l.surplus;
}
