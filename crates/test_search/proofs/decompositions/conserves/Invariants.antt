use Rattle.std.proofs.Common.{◌≡◌, ℕ, ◌<◌}
use Rattle.vs_layer.specs.Circulation.{units_in, units_out}
use Rattle.test_search.proofs.decompositions.conserves.Given as goal

abbrev pub invariant-loop-v : goal.invariant-loop-v
invariant-loop-v l = (v : ℕ) → v < l.v → units_in l.net l.flow.units.items v ≡ units_out l.net l.flow.units.items v
