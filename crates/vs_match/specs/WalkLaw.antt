-- What the arcs of a layer's net on which vehicles wait, drive and rest lead to: exactly the trips that connect, at
-- exactly what their link costs, straight or by the depot, as is cheaper.
use Rattle.std.specs.Prelude.{◌≡◌, ℕ, ◌<◌, List, [], ◌∷◌, ◌++◌, length, option_map}
use Rattle.vs_layer.specs.Graph.{arc_of}
use Rattle.vs_layer.specs.Walks.{Leads, IsLeastCost}
use Rattle.vs_instance.specs.Problem.{Problem}
use Rattle.vs_instance.specs.Pieces.{out_piece, link_piece, in_piece}
use Rattle.vs_match.specs.declared.arc_kind.ArcKind.{ArcKind}
use Rattle.vs_match.specs.declared.arc_kind.ArcKind.TheVariants.{Waiting, Deadhead, PullOut, PullIn, RestIn, RestWait, RestOut}
use Rattle.vs_match.specs.Events.{departure, arrival, MayRun, HasPlace}
use Rattle.vs_match.specs.NetArcs.{at_scale}
use Rattle.vs_match.specs.LayerGraph.{LayerGraph, kind_of}

-- a vehicle on the arc waits, drives from a stop to another, or goes by the depot, where it rests
abbrev pub IsMove : ArcKind → Type 0
IsMove Waiting = Unit {0}
IsMove Deadhead = Unit {0}
IsMove RestIn = Unit {0}
IsMove RestWait = Unit {0}
IsMove RestOut = Unit {0}
IsMove _ = ⊥

-- such arcs from node u to node v, none at all included
abbrev pub IsWalk : LayerGraph → ℕ → List ℕ → ℕ → Type 0
IsWalk n u ks v = Leads n.graph (λ k. IsMove (kind_of n k)) u ks v

-- a pull-out, and then a walk to node v
abbrev pub IsWayOut : LayerGraph → ℕ → List ℕ → Type 0
IsWayOut n v [] = ⊥
IsWayOut n v (k ∷ walk) = (k < length n.graph.arcs) × (kind_of n k ≡ PullOut) × IsWalk n (arc_of n.graph k).to walk v

-- a walk from node u, and then a pull-in
pub record IsWayIn (n : LayerGraph) (u : ℕ) (ks : List ℕ) : Type 0 where
  pub walk : List ℕ
  pub last : ℕ
  pub is : ks ≡ walk ++ last ∷ []
  pub of_net : last < length n.graph.arcs
  pub pull_in : kind_of n last ≡ PullIn
  pub is_walk : IsWalk n u walk (arc_of n.graph last).from

-- For all trips i and j that layer l may run, with u the node where i arrives and v the node where j departs: a way
-- out leads to v exactly where j has a pull-out, a way in leads from u exactly where i has a pull-in, and a walk leads
-- from u to v exactly where i connects to j. The cheapest of them costs what the pull-out, the pull-in or the link
-- costs.
pub record HasWalkLaw (p : Problem) (l : ℕ) (n : LayerGraph) : Type 0 where
  pub outs : (j v : ℕ) → MayRun p l j → HasPlace n.points v (departure p j)
      → IsLeastCost n.graph (IsWayOut n v) (option_map at_scale (out_piece p l j))
  pub ins : (i u : ℕ) → MayRun p l i → HasPlace n.points u (arrival p i)
      → IsLeastCost n.graph (IsWayIn n u) (option_map at_scale (in_piece p l i))
  pub links : (i j u v : ℕ) → MayRun p l i → MayRun p l j
      → HasPlace n.points u (arrival p i) → HasPlace n.points v (departure p j)
      → IsLeastCost n.graph (λ ks. IsWalk n u ks v) (option_map at_scale (link_piece p l i j))
