-- The nets that every search rests on: their walks are the connections, by whichever matching they were made.
use Rattle.std.specs.Prelude.{◌≡◌, ℕ, ◌+◌, ◌*◌, ◌<◌, ◌≤◌, List, length, nat_abs, pos, ◌≤ℤ◌}
use Rattle.vs_layer.specs.declared.arc.Arc.{Arc}
use Rattle.vs_layer.specs.Graph.{IsNet, arc_of}
use Rattle.vs_instance.specs.declared.limits.TheConstants.{MAX_DEAREST_SUM}
use Rattle.vs_instance.specs.Problem.{Problem}
use Rattle.vs_instance.specs.Ways.{layer_of}
use Rattle.vs_match.specs.declared.event.Event.{Event}
use Rattle.vs_match.specs.declared.event.Point.{Point}
use Rattle.vs_match.specs.declared.arc_kind.ArcKind.{ArcKind}
use Rattle.vs_match.specs.declared.arc_kind.ArcKind.TheVariants.{Trip, Waiting, Deadhead, PullOut, PullIn, RestIn, RestWait, RestOut, Return}
use Rattle.vs_match.specs.declared.layer_net.TheConstants.{MAX_ARC_COST}
use Rattle.vs_match.specs.Events.{MayRun, HasPlace, HasLine, last_node}
use Rattle.vs_match.specs.NetArcs.{IsTripArc, IsReturnArc}
use Rattle.vs_match.specs.LayerGraph.{LayerGraph, IsLabelled, IsArcOfTrip, kind_of}
use Rattle.vs_match.specs.WalkLaw.{HasWalkLaw}

-- the node stands for some event, or for some minute of the depot line
abbrev pub IsAtStop : List Point → ℕ → Type 0
IsAtStop points v = (e : Event) × HasPlace points v e

abbrev pub IsOnLine : List Point → ℕ → Type 0
IsOnLine points v = (minute : ℕ) × HasLine points v minute

-- as many such arcs as there are trips don't cost too much; costs are in 1/1000 of a cost unit
abbrev pub IsPayableArc : Problem → Arc → Type 0
IsPayableArc p a = length p.trips * nat_abs a.cost ≤ 1000 * MAX_DEAREST_SUM

-- an arc that every vehicle of the layer may take at once, and that costs nothing less than nothing
pub record IsFreeArc (p : Problem) (l : ℕ) (a : Arc) : Type 0 where
  pub no_gain : pos 0 ≤ℤ a.cost
  pub limit : a.cost ≤ℤ MAX_ARC_COST
  pub payable : IsPayableArc p a
  pub room : a.room ≡ (layer_of p l).fleet

-- where an arc of this kind begins and ends, and what it takes and costs
abbrev pub IsLawfulArc : Problem → ℕ → List Point → ArcKind → Arc → Type 0
IsLawfulArc p l points (Trip i) a = IsTripArc p l points i.0 a
IsLawfulArc p l points Waiting a = IsAtStop points a.from × IsAtStop points a.to × IsFreeArc p l a
IsLawfulArc p l points Deadhead a = IsAtStop points a.from × IsAtStop points a.to × IsFreeArc p l a
IsLawfulArc p l points PullOut a = (a.from ≡ 0) × IsAtStop points a.to × IsFreeArc p l a
IsLawfulArc p l points PullIn a = IsAtStop points a.from × (a.to ≡ last_node points) × IsFreeArc p l a
IsLawfulArc p l points RestIn a = IsAtStop points a.from × IsOnLine points a.to × IsFreeArc p l a
IsLawfulArc p l points RestWait a = IsOnLine points a.from × IsOnLine points a.to × IsFreeArc p l a
IsLawfulArc p l points RestOut a = IsOnLine points a.from × IsAtStop points a.to × IsFreeArc p l a
IsLawfulArc p l points Return a = IsReturnArc p l points a

-- a net of layer l in which each trip that the layer may run has one arc, and in which the walks are the connections
pub record IsLawful (p : Problem) (l : ℕ) (n : LayerGraph) : Type 0 where
  pub layer : l < length p.layers
  pub net : IsNet n.graph
  pub labelled : IsLabelled n
  pub few_nodes : n.graph.nodes ≤ 3 * length p.trips + 2
  pub arcs : (k : ℕ) → k < length n.graph.arcs → IsLawfulArc p l n.points (kind_of n k) (arc_of n.graph k)
  pub each_trip : (i : ℕ) → MayRun p l i → (k : ℕ) × IsArcOfTrip n.kinds i k
  pub one_arc : (i j k : ℕ) → IsArcOfTrip n.kinds i j → IsArcOfTrip n.kinds i k → j ≡ k
  pub walks : HasWalkLaw p l n
