use Rattle.std.proofs.Common.{◌≡◌, ◌≢◌, ℕ, ◌<◌, ◌↔◌, [], length}
use Rattle.vs_types.specs.LayerSet.{Has, members}
use Rattle.vs_instance.specs.Restriction.{set_of}
use Rattle.vs_node.specs.ChosenLayers.{IsCheapest}
use Rattle.vs_node.proofs.choosing.chosen_layers.Given as goal

-- the trips so far have their cheapest layers
abbrev pub invariant-loop-i : goal.invariant-loop-i
invariant-loop-i l = record {
  count : length l.chosen.items ≡ l.i;
  cheapest : (i k : ℕ) → i < l.i
      → Has (set_of l.chosen.items i) k ↔ IsCheapest l.instance (set_of l.sets i) l.table i k;
  some : (i : ℕ) → i < l.i → members (set_of l.chosen.items i) ≢ [];
}
