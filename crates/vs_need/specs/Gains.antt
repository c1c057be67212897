-- What the walks between a node and the arcs that a pass asks for are worth.
use Rattle.std.specs.Prelude.{◌≡◌, ℕ, ◌<◌, ◌==◌, Bool, true, false, if◌then◌else◌, List, length, Option, Some, None, slice_index_or, ℤ, pos, neg_ℤ, ◌-ℤ◌}
use Rattle.vs_layer.specs.declared.arc.Arc.{Arc}
use Rattle.vs_layer.specs.declared.arc.TheConstants.{MAX_ARCS}
use Rattle.vs_layer.specs.Graph.{arc_of}
use Rattle.vs_layer.specs.Walks.{path_cost}
use Rattle.vs_instance.specs.HoldingTable.{price_of}
use Rattle.vs_match.specs.declared.arc_kind.ArcKind.{ArcKind}
use Rattle.vs_match.specs.declared.arc_kind.ArcKind.TheVariants.{Trip, PullOut, PullIn}
use Rattle.vs_match.specs.LayerGraph.{LayerGraph, IsArcOfTrip, kind_of}
use Rattle.vs_match.specs.WalkLaw.{IsWalk}
use Rattle.vs_need.specs.declared.aim.Aim.{Aim}
use Rattle.vs_need.specs.declared.aim.Aim.TheVariants as aim
use Rattle.vs_need.specs.Greatest.{IsGreatest, IfWide}

-- what a cost counts: in a ray nothing
abbrev pub fare : Bool → ℤ → ℤ
fare ray cost = if ray then pos 0 else cost

-- walks lead from the node to the arc, and the arcs are read from the last on; else from the arc to the node
abbrev pub is_against : Aim → Bool
is_against aim.Next = true
is_against aim.PullIn = true
is_against aim.PullOut = false
is_against (aim.After i) = false

-- the end of an arc at which it joins the walks so far to one more node, and that other node
abbrev pub far_of : Aim → Arc → ℕ
far_of t a = if is_against t then a.to else a.from

abbrev pub near_of : Aim → Arc → ℕ
near_of t a = if is_against t then a.from else a.to

-- what an arc that is asked for is worth itself: entering the trip, less a pull-out or a pull-in, or nothing
abbrev pub prize_of : List ℤ → Bool → Aim → ArcKind → ℤ → Option ℤ
prize_of into ray aim.Next (Trip j) cost = Some (price_of into j.0)
prize_of into ray aim.PullIn PullIn cost = Some (neg_ℤ (fare ray cost))
prize_of into ray aim.PullOut PullOut cost = Some (neg_ℤ (fare ray cost))
prize_of into ray (aim.After i) (Trip j) cost = if i.0 == j.0 then Some (pos 0) else None
prize_of into ray _ _ cost = None

-- the walk leads from node v to node u where arcs are read from the last on, else from u to v
abbrev pub Joins : LayerGraph → Bool → ℕ → List ℕ → ℕ → Type 0
Joins n true v walk u = IsWalk n v walk u
Joins n false v walk u = IsWalk n u walk v

-- x is what a walk between node v and an arc that is asked for is worth: what the arc is worth, less what the walk
-- costs
pub record IsGain (n : LayerGraph) (into : List ℤ) (ray : Bool) (t : Aim) (v : ℕ) (x : ℤ) : Type 0 where
  pub arc : ℕ
  pub prize : ℤ
  pub walk : List ℕ
  pub of_net : arc < length n.graph.arcs
  pub is_prize : prize_of into ray t (kind_of n arc) (arc_of n.graph arc).cost ≡ Some prize
  pub joins : Joins n (is_against t) v walk (near_of t (arc_of n.graph arc))
  pub worth : x ≡ prize -ℤ fare ray (path_cost n.graph walk)

-- the greatest gains at the far ends of the trips' arcs, by the trips' numbers
pub record AreGains (n : LayerGraph) (into : List ℤ) (ray : Bool) (t : Aim) (found : List (Option ℤ)) : Type 0 where
  pub at_trips : (i k : ℕ) → IsArcOfTrip n.kinds i k
      → IsGreatest (IsGain n into ray t (far_of t (arc_of n.graph k))) (slice_index_or found i None)
  pub nowhere : (i : ℕ) → ((k : ℕ) → ¬ (IsArcOfTrip n.kinds i k)) → slice_index_or found i None ≡ None
  pub wide : (i : ℕ) → IfWide MAX_ARCS (slice_index_or found i None)
