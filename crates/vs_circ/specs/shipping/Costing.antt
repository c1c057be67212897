-- What the units of a flow pay by the prices of the nodes, arc by arc and trip by trip.
use Rattle.std.specs.Prelude.{◌≡◌, ℕ, List, slice_index, ℤ, pos, ◌*ℤ◌}
use Rattle.vs_match.specs.LayerGraph.{LayerGraph, IsArcOfTrip}
use Rattle.vs_circ.specs.PricedFlows.{arc_pays}

-- what the units on arc k cost beyond what they bring, from node to node
abbrev pub units_pay : LayerGraph → List ℕ → List ℤ → ℕ → ℤ
units_pay n units prices k = arc_pays n prices k *ℤ pos (slice_index units k)

-- the units on the arc of trip i pay so much, nothing where no arc is its
pub record IsPaidByTrip (n : LayerGraph) (units : List ℕ) (prices : List ℤ) (i : ℕ) (pays : ℤ) : Type 0 where
  pub with_arc : (k : ℕ) → IsArcOfTrip n.kinds i k → pays ≡ units_pay n units prices k
  pub without : ((k : ℕ) → ¬ (IsArcOfTrip n.kinds i k)) → pays ≡ pos 0
