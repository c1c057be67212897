use Rattle.std.proofs.Common.{ℕ, ◌<◌}
use Rattle.vs_instance.specs.Restriction.{set_of}
use Rattle.vs_walk.specs.Penalties.{IsGiven}
use Rattle.vs_walk.proofs.choosing.lowest_layers.Given as goal

-- the trips so far have one layer
abbrev pub invariant-loop-i : goal.invariant-loop-i
invariant-loop-i l = (j : ℕ) → j < l.i → IsGiven l.instance j (set_of l.runs j) (set_of l.chosen j)
