-- Which layers run a trip, once one of them has run anew.
use Rattle.std.specs.Prelude.{◌≡◌, ◌≢◌, ◌↔◌, ℕ, ◌<◌, Bool, false, IsTrue, List, length, slice_index_or}
use Rattle.vs_types.specs.LayerSet.{Has}
use Rattle.vs_types.specs.declared.layer_set.LayerSet.{LayerSet}
use Rattle.vs_instance.specs.Restriction.{set_of}

-- layer l stands in the new set where it is marked, and the others as in the old one
pub record IsNoted (l : ℕ) (mark : Bool) (old new : LayerSet) : Type 0 where
  pub own : Has new l ↔ IsTrue mark
  pub others : (k : ℕ) → k ≢ l → Has new k ↔ Has old k

-- so for each trip
pub record AreNoted (l : ℕ) (marks : List Bool) (old new : List LayerSet) : Type 0 where
  pub each_trip : length new ≡ length old
  pub noted : (i : ℕ) → i < length marks → IsNoted l (slice_index_or marks i false) (set_of old i) (set_of new i)
