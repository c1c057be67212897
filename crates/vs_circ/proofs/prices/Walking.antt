-- Along moves without passengers weights of nodes rise by no more than what the moves cost, so that no link, no
-- pull-out and no pull-in costs less than what they rise by.
use Rattle.std.proofs.Common.{◌≡◌, ℕ, ◌<◌, ◌∙◌, Bool, true, false, if◌then◌else◌, List, [], ◌∷◌, length, Option, Some, None, refl, sym, ap, subst, arith, ℤ, pos, ◌+ℤ◌, ◌≤ℤ◌}
use Rattle.std.specs.Prelude.{IfSome, option_map}
use Rattle.std.proofs.lemmas.Int.{ints}
use Rattle.vs_layer.specs.Graph.{Graph, arc_of}
use Rattle.vs_layer.specs.Walks.{IsLeastCost, path_cost}
use Rattle.vs_instance.specs.Problem.{Problem}
use Rattle.vs_instance.specs.Pieces.{out_piece, link_piece, in_piece}
use Rattle.vs_instance.specs.HoldingTable.{scaled}
use Rattle.vs_match.specs.declared.arc_kind.ArcKind.{ArcKind}
use Rattle.vs_match.specs.declared.arc_kind.ArcKind.TheVariants.{Trip, Waiting, Deadhead, PullOut, PullIn, RestIn, RestWait, RestOut, Return}
use Rattle.vs_match.specs.Events.{last_node}
use Rattle.vs_match.specs.NetArcs.{at_scale, IsTripArc}
use Rattle.vs_match.specs.LayerGraph.{LayerGraph, IsArcOfTrip, kind_of}
use Rattle.vs_match.specs.WalkLaw.{IsMove, IsWalk, IsWayOut, IsWayIn}
use Rattle.vs_match.specs.LawfulNets.{IsLawful, IsLawfulArc}
use Rattle.vs_match.proofs.CallerLemmas.{path_cost-append}
use Rattle.vs_circ.specs.node_prices.NodePrices.{IsEmptyMove, arc_cost}
use Rattle.vs_circ.specs.PricedFlows.{end_node}

-- along each empty move the weight rises by no more than what the move costs
abbrev pub AreMoveWeights : LayerGraph → Bool → (ℕ → ℤ) → Type 0
AreMoveWeights n ray weight = (k : ℕ) → k < length n.graph.arcs → IsEmptyMove (kind_of n k)
    → weight (arc_of n.graph k).to ≤ℤ (weight (arc_of n.graph k).from +ℤ arc_cost ray (arc_of n.graph k))

-- what a cost counts
abbrev counts : Bool → ℤ → ℤ
counts ray c = if ray then pos 0 else c

counts-none : (ray : Bool) → counts ray (pos 0) ≡ pos 0
counts-none true = refl
counts-none false = refl

-- two costs count what they count together
counts-sum : (ray : Bool) (a b : ℤ) → counts ray (a +ℤ b) ≡ counts ray a +ℤ counts ray b
counts-sum true a b = refl
counts-sum false a b = refl

-- a cost in 1/1000 counts as it does in a table
counts-scaled : (ray : Bool) (c : ℕ) → counts ray (at_scale c) ≡ scaled ray c
counts-scaled true c = refl
counts-scaled false c = refl

-- a move from trip to trip is an empty move
empty-move : (kind : ArcKind) → IsMove kind → IsEmptyMove kind
empty-move (Trip i) moves = absurd moves
empty-move Waiting moves = tt
empty-move Deadhead moves = tt
empty-move PullOut moves = absurd moves
empty-move PullIn moves = absurd moves
empty-move RestIn moves = tt
empty-move RestWait moves = tt
empty-move RestOut moves = tt
empty-move Return moves = absurd moves

-- what is within the cost of each such list of arcs is within what the least of them costs
within-least : (g : Graph) (Such : List ℕ → Type 0) (ray : Bool) (low high : ℤ) (piece : Option ℕ)
    → IsLeastCost g Such (option_map at_scale piece)
    → ((ks : List ℕ) → Such ks → low ≤ℤ (high +ℤ counts ray (path_cost g ks)))
    → IfSome piece (λ c. low ≤ℤ (high +ℤ scaled ray c))
within-least g Such ray low high None least each = tt
within-least g Such ray low high (Some c) least each =
    let some = least.0 in
    let same : counts ray (path_cost g some.0) ≡ scaled ray c =
    ap (λ (x : ℤ). counts ray x) some.2 ∙ counts-scaled ray c in
    subst (λ (x : ℤ). low ≤ℤ (high +ℤ x)) same (each some.0 some.1)

module _ (p : Problem) (l : ℕ) (n : LayerGraph) (lawful : IsLawful p l n) (ray : Bool) (weight : ℕ → ℤ)
    (moves : AreMoveWeights n ray weight) where
  along_walk : (ks : List ℕ) (u v : ℕ) → IsWalk n u ks v
      → weight v ≤ℤ (weight u +ℤ counts ray (path_cost n.graph ks))
  along_walk [] u v walk =
      let same : weight u ≡ weight v = ap weight walk in
      let none = counts-none ray in
      omega (arith, ints, same, none)
  along_walk (k ∷ ks) u v walk =
      let from : weight (arc_of n.graph k).from ≡ weight u = ap weight walk.2 in
      let step = moves k walk.0 (empty-move (kind_of n k) walk.1) in
      let rest = along_walk ks (arc_of n.graph k).to v walk.3 in
      let sum = counts-sum ray (arc_of n.graph k).cost (path_cost n.graph ks) in
      omega (arith, ints, from, step, rest, sum)

  along_way_out : (ks : List ℕ) (v : ℕ) → IsWayOut n v ks
      → weight v ≤ℤ (weight 0 +ℤ counts ray (path_cost n.graph ks))
  along_way_out [] v way = absurd way
  along_way_out (k ∷ ks) v way =
      let law : IsLawfulArc p l n.points PullOut (arc_of n.graph k) =
      subst (λ (kind : ArcKind). IsLawfulArc p l n.points kind (arc_of n.graph k)) way.1 (lawful.arcs k way.0) in
      let from : weight (arc_of n.graph k).from ≡ weight 0 = ap weight law.0 in
      let step = moves k way.0 (subst IsEmptyMove (sym way.1) tt) in
      let rest = along_walk ks (arc_of n.graph k).to v way.2 in
      let sum = counts-sum ray (arc_of n.graph k).cost (path_cost n.graph ks) in
      omega (arith, ints, from, step, rest, sum)

  end-last : end_node n ≡ last_node n.points
  end-last = omega (arith, lawful.labelled.each_node)

  along_way_in : (ks : List ℕ) (u : ℕ) → IsWayIn n u ks
      → weight (end_node n) ≤ℤ (weight u +ℤ counts ray (path_cost n.graph ks))
  along_way_in ks u way =
      let law : IsLawfulArc p l n.points PullIn (arc_of n.graph way.last) =
      subst (λ (kind : ArcKind). IsLawfulArc p l n.points kind (arc_of n.graph way.last)) way.pull_in
      (lawful.arcs way.last way.of_net) in
      let to : weight (arc_of n.graph way.last).to ≡ weight (end_node n) = ap weight (law.1 ∙ sym end-last) in
      let step = moves way.last way.of_net (subst IsEmptyMove (sym way.pull_in) tt) in
      let before = along_walk way.walk u (arc_of n.graph way.last).from way.is_walk in
      let cost : path_cost n.graph ks ≡ path_cost n.graph way.walk +ℤ ((arc_of n.graph way.last).cost +ℤ pos 0) =
      ap (λ (js : List ℕ). path_cost n.graph js) way.is ∙ path_cost-append n.graph way.walk (way.last ∷ []) in
      let parts : counts ray (path_cost n.graph ks)
      ≡ counts ray (path_cost n.graph way.walk) +ℤ (counts ray (arc_of n.graph way.last).cost +ℤ counts ray (pos 0)) =
      ap (λ (x : ℤ). counts ray x) cost
      ∙ counts-sum ray (path_cost n.graph way.walk) ((arc_of n.graph way.last).cost +ℤ pos 0)
      ∙ ap (λ (x : ℤ). counts ray (path_cost n.graph way.walk) +ℤ x)
      (counts-sum ray (arc_of n.graph way.last).cost (pos 0)) in
      let none = counts-none ray in
      omega (arith, ints, to, step, before, parts, none)

  -- the arc of a trip leaves the node where it departs, and reaches the one where it arrives
  trip_arc : (i k : ℕ) → IsArcOfTrip n.kinds i k → IsTripArc p l n.points i (arc_of n.graph k)
  trip_arc i k is =
      subst (λ (kind : ArcKind). IsLawfulArc p l n.points kind (arc_of n.graph k)) is.1
      (lawful.arcs k (omega (arith, is.0, lawful.labelled.each_arc)))

  -- from the depot's beginning to where a trip departs the weight rises by no more than the pull-out
  pub rises_out : (i k : ℕ) → IsArcOfTrip n.kinds i k
      → IfSome (out_piece p l i) (λ c. weight (arc_of n.graph k).from ≤ℤ (weight 0 +ℤ scaled ray c))
  rises_out i k is =
      let arc = trip_arc i k is in
      within-least n.graph (IsWayOut n (arc_of n.graph k).from) ray (weight (arc_of n.graph k).from) (weight 0)
      (out_piece p l i) (lawful.walks.outs i (arc_of n.graph k).from arc.may_run arc.from)
      (λ ks way. along_way_out ks (arc_of n.graph k).from way)

  -- from where a trip arrives to where another departs it rises by no more than the link
  pub rises_on : (i j k m : ℕ) → IsArcOfTrip n.kinds i k → IsArcOfTrip n.kinds j m
      → IfSome (link_piece p l i j)
      (λ c. weight (arc_of n.graph m).from ≤ℤ (weight (arc_of n.graph k).to +ℤ scaled ray c))
  rises_on i j k m is is' =
      let arc = trip_arc i k is in
      let arc' = trip_arc j m is' in
      let u = (arc_of n.graph k).to in
      let v = (arc_of n.graph m).from in
      within-least n.graph (λ ks. IsWalk n u ks v) ray (weight v) (weight u) (link_piece p l i j)
      (lawful.walks.links i j u v arc.may_run arc'.may_run arc.to arc'.from) (λ ks walk. along_walk ks u v walk)

  -- from where a trip arrives to the depot's end it rises by no more than the pull-in
  pub rises_in : (i k : ℕ) → IsArcOfTrip n.kinds i k
      → IfSome (in_piece p l i) (λ c. weight (end_node n) ≤ℤ (weight (arc_of n.graph k).to +ℤ scaled ray c))
  rises_in i k is =
      let arc = trip_arc i k is in
      within-least n.graph (IsWayIn n (arc_of n.graph k).to) ray (weight (end_node n)) (weight (arc_of n.graph k).to)
      (in_piece p l i) (lawful.walks.ins i (arc_of n.graph k).to arc.may_run arc.to)
      (λ ks way. along_way_in ks (arc_of n.graph k).to way)
