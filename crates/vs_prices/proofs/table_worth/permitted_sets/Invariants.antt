use Rattle.std.proofs.Common.{◌≡◌, map, take}
use Rattle.vs_prices.proofs.table_worth.permitted_sets.Given as goal

-- the sets so far are those of the trips below this one
abbrev pub invariant-loop-i : goal.invariant-loop-i
invariant-loop-i l = l.sets.items ≡ map (λ t. t.layers) (take l.i l.instance.trips)
