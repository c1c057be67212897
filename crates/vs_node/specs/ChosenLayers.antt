-- Which layer each trip is given to, by a table of prices.
use Rattle.std.specs.Prelude.{◌≡◌, ℕ, ◌<◌, ◌≤◌, ◌↔◌, ◌⊎◌, List, length, ◌<ℤ◌}
use Rattle.vs_types.specs.declared.layer_set.LayerSet.{LayerSet}
use Rattle.vs_types.specs.LayerSet.{Has}
use Rattle.vs_instance.specs.Problem.{Problem}
use Rattle.vs_instance.specs.Restriction.{set_of}
use Rattle.vs_prices.specs.declared.table.Table.{Table}
use Rattle.vs_prices.specs.Worth.{trip_price}

-- trip i pays less in layer l than in layer m, or the same, and l has the lower number or is m
abbrev pub ComesFirst : Problem → Table → ℕ → ℕ → ℕ → Type 0
ComesFirst p table i l m =
    (trip_price p table i l <ℤ trip_price p table i m) ⊎ ((trip_price p table i l ≡ trip_price p table i m) × (l ≤ m))

-- layer l is the one of the set in which trip i pays least, on a tie the one with the lowest number
pub record IsCheapest (p : Problem) (set : LayerSet) (table : Table) (i l : ℕ) : Type 0 where
  pub among : Has set l
  pub first : (m : ℕ) → Has set m → ComesFirst p table i l m

-- a set for each trip, which has that layer alone
pub record AreChosen (p : Problem) (sets : List LayerSet) (table : Table) (chosen : List LayerSet) : Type 0 where
  pub each_trip : length chosen ≡ length p.trips
  pub cheapest : (i l : ℕ) → i < length p.trips → Has (set_of chosen i) l ↔ IsCheapest p (set_of sets i) table i l

-- no trip may be run in two layers
abbrev pub AreSingle : List LayerSet → Type 0
AreSingle sets =
    (i k m : ℕ) → i < length sets → Has (set_of sets i) k → Has (set_of sets i) m → k ≡ m
