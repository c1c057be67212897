-- What the arcs of a lawful net are.
use Rattle.std.proofs.Common.{◌≡◌, ◌≢◌, ℕ, ◌<◌, length, refl, subst, arith}
use Rattle.vs_layer.specs.declared.arc.Arc.{Arc}
use Rattle.vs_layer.specs.Graph.{arc_of}
use Rattle.vs_types.specs.declared.numbers.LayerNo.{LayerNo}
use Rattle.vs_instance.specs.Problem.{Problem}
use Rattle.vs_match.specs.declared.arc_kind.ArcKind.{ArcKind}
use Rattle.vs_match.specs.declared.arc_kind.ArcKind.TheVariants.{Trip, Waiting, Deadhead, PullOut, PullIn, RestIn, RestWait, RestOut, Return}
use Rattle.vs_match.specs.NetArcs.{IsReturnArc, IsTripArc}
use Rattle.vs_match.specs.LawfulNets.{IsLawful, IsLawfulArc}
use Rattle.vs_match.specs.LayerGraph.{IsArcOfTrip, LayerGraph, kind_of}
use Rattle.vs_match.proofs.CallerLemmas.{no_point_at_first}
use Rattle.vs_circ.specs.PricedFlows.{end_node, last_arc}

module _ (p : Problem) (l : LayerNo) (n : LayerGraph) (lawful : IsLawful p l.0 n) where
  -- a trip's arc goes from its departure to its arrival
  pub trip_arc : (i k : ℕ) → IsArcOfTrip n.kinds i k → IsTripArc p l.0 n.points i (arc_of n.graph k)
  trip_arc i k arc =
      let labelled = lawful.labelled.each_arc in
      subst (λ (kind : ArcKind). IsLawfulArc p l.0 n.points kind (arc_of n.graph k)) arc.1
      (lawful.arcs k (omega (arith, arc.0)))

  -- an arc to the first node is the way back
  back_to_first : (kind : ArcKind) (a : Arc) → a.to ≡ 0 → IsLawfulArc p l.0 n.points kind a → kind ≡ Return
  back_to_first (Trip i) a first is = absurd (no_point_at_first n.points a.to _ first is.to)
  back_to_first Waiting a first is = absurd (no_point_at_first n.points a.to _ first is.1.1)
  back_to_first Deadhead a first is = absurd (no_point_at_first n.points a.to _ first is.1.1)
  back_to_first PullOut a first is = absurd (no_point_at_first n.points a.to _ first is.1.1)
  back_to_first PullIn a first is = let last = is.1 in absurd (omega arith)
  back_to_first RestIn a first is = absurd (no_point_at_first n.points a.to _ first is.1.1)
  back_to_first RestWait a first is = absurd (no_point_at_first n.points a.to _ first is.1.1)
  back_to_first RestOut a first is = absurd (no_point_at_first n.points a.to _ first is.1.1)
  back_to_first Return a first is = refl

  -- the last arc is one of the net
  pub last_inside : last_arc n < length n.graph.arcs
  last_inside = let some = lawful.net.some_arc in omega arith

  -- the last arc is the way back
  pub last_kind : kind_of n (last_arc n) ≡ Return
  last_kind =
      let some = lawful.net.some_arc in
      let goes = (lawful.net.each_arc (last_arc n) last_inside).goes_on in
      back_to_first (kind_of n (last_arc n)) (arc_of n.graph (last_arc n)) (goes.to_first (omega arith))
      (lawful.arcs (last_arc n) last_inside)

  -- it costs nothing, and has room for all vehicles
  pub return_arc : IsReturnArc p l.0 n.points (arc_of n.graph (last_arc n))
  return_arc =
      subst (λ (kind : ArcKind). IsLawfulArc p l.0 n.points kind (arc_of n.graph (last_arc n))) last_kind
      (lawful.arcs (last_arc n) last_inside)

  -- it begins at the depot's end
  pub return_from : (arc_of n.graph (last_arc n)).from ≡ end_node n
  return_from =
      let some = lawful.net.some_arc in
      let from = (lawful.net.each_arc (last_arc n) last_inside).goes_on.from_last (omega arith) in
      omega arith

  -- no other arc is the way back
  pub other_arc : (k : ℕ) → k < length n.graph.arcs → k ≢ last_arc n → kind_of n k ≢ Return
  other_arc k within other is =
      let forward = (lawful.net.each_arc k within).goes_on.forward (omega arith) in
      let first = (subst (λ (kind : ArcKind). IsLawfulArc p l.0 n.points kind (arc_of n.graph k)) is
      (lawful.arcs k within)).to in
      omega arith
