-- What the arcs of a layer's net cost and take where trips are offered.
use Rattle.std.specs.Prelude.{◌≡◌, ℕ, ◌<◌, ◌≤◌, List, length, slice_index, Option, Some, None, IfSome, ℤ, pos, ◌-ℤ◌, ◌≤ℤ◌}
use Rattle.vs_layer.specs.declared.arc.Arc.{Arc}
use Rattle.vs_layer.specs.Graph.{arc_of}
use Rattle.vs_match.specs.declared.arc_kind.ArcKind.{ArcKind}
use Rattle.vs_match.specs.declared.arc_kind.ArcKind.TheVariants.{Trip, Return}
use Rattle.vs_match.specs.declared.layer_net.TheConstants.{MAX_ARC_COST}
use Rattle.vs_match.specs.LayerGraph.{LayerGraph, IsArcOfTrip, kind_of}
use Rattle.vs_path.specs.StepCosts.{most_step}
use Rattle.vs_path.specs.Residual.{IsWithin, price_at}
use Rattle.vs_circ.specs.declared.preparing.TheConstants.{UNLIMITED}
use Rattle.vs_instance.specs.declared.limits.TheConstants.{MAX_FLEET, MAX_MULTIPLIER}
use Rattle.vs_circ.specs.Offers.{offer_of, paid}

-- what an arc costs once a trip's multiplier is taken off
abbrev pub offered_cost : List (Option ℤ) → ArcKind → Arc → ℤ
offered_cost offers (Trip i) a = a.cost -ℤ paid (offer_of offers i.0)
offered_cost offers _ a = a.cost

abbrev pub room_if : Option ℤ → ℕ
room_if None = 0
room_if (Some multiplier) = 1

-- how many units an arc takes: a trip's where it is offered one, the return arc as many as there are vehicles
abbrev pub offered_room : List (Option ℤ) → ArcKind → Arc → ℕ
offered_room offers (Trip i) a = room_if (offer_of offers i.0)
offered_room offers Return a = a.room
offered_room offers _ a = UNLIMITED

abbrev pub AreOfferedCosts : LayerGraph → List (Option ℤ) → List ℤ → Type 0
AreOfferedCosts n offers cost = (k : ℕ) → k < length n.graph.arcs
    → price_at cost k ≡ offered_cost offers (kind_of n k) (arc_of n.graph k)

abbrev pub AreOfferedRooms : LayerGraph → List (Option ℤ) → List ℕ → Type 0
AreOfferedRooms n offers room = (k : ℕ) → k < length n.graph.arcs
    → slice_index room k ≡ offered_room offers (kind_of n k) (arc_of n.graph k)

-- no multiplier is beyond the greatest
abbrev pub AreSmallOffers : List (Option ℤ) → Type 0
AreSmallOffers offers = (i : ℕ) → IfSome (offer_of offers i) (λ m. (pos 0 ≤ℤ m) × (m ≤ℤ MAX_MULTIPLIER))

-- with the multipliers taken off, no arc costs more than a step may in a net of so many nodes
abbrev pub AreSmallSteps : LayerGraph → List (Option ℤ) → Type 0
AreSmallSteps n offers = (k : ℕ) → k < length n.graph.arcs
    → IsWithin (pos (most_step n.graph.nodes)) (offered_cost offers (kind_of n k) (arc_of n.graph k))

-- the costs and rooms of a lawful net's arcs, of which one at most is a trip's
pub record HasSmallArcs (n : LayerGraph) : Type 0 where
  pub no_gain : (k : ℕ) → k < length n.graph.arcs → pos 0 ≤ℤ (arc_of n.graph k).cost
  pub cost : (k : ℕ) → k < length n.graph.arcs → (arc_of n.graph k).cost ≤ℤ MAX_ARC_COST
  pub room : (k : ℕ) → k < length n.graph.arcs → (arc_of n.graph k).room ≤ MAX_FLEET
  pub trip : (i k : ℕ) → k < length n.graph.arcs → kind_of n k ≡ Trip (record { 0 = i })
      → (arc_of n.graph k).room ≡ 1
  pub one_arc : (i j k : ℕ) → IsArcOfTrip n.kinds i j → IsArcOfTrip n.kinds i k → j ≡ k
