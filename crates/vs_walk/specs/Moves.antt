-- How multipliers move once all layers have run.
use Rattle.std.specs.Prelude.{◌≡◌, ℕ, ◌<◌, List, length, ℤ, pos}
use Rattle.vs_types.specs.LayerSet.{members}
use Rattle.vs_types.specs.declared.layer_set.LayerSet.{LayerSet}
use Rattle.vs_instance.specs.Dearest.{most_multiplier}
use Rattle.vs_instance.specs.Lagrangian.{multiplier_of}
use Rattle.vs_instance.specs.Restriction.{set_of}
use Rattle.vs_multi.specs.Steps.{moved}

-- the multiplier of each trip has moved by the rate, for as many layers as run the trip
abbrev pub AreMoved : ℕ → List LayerSet → List ℤ → List ℤ → Type 0
AreMoved rate runs old new = (i : ℕ) → i < length runs
    → multiplier_of new i
    ≡ moved (pos (most_multiplier (length old))) (multiplier_of old i) rate (length (members (set_of runs i)))
