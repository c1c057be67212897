use Rattle.std.proofs.Common.{◌≡◌, ℕ, List, false, sym, ap, ◌∙◌, subst, ◌⊎◌, inl, inr, arith, pos, ◌≤ℤ◌}
use Rattle.std.proofs.lemmas.Int.{ints}
use Rattle.vs_layer.specs.declared.arc.Arc.{Arc}
use Rattle.vs_layer.specs.Graph.{Graph, arc_of}
use Rattle.vs_instance.specs.Problem.{Problem}
use Rattle.vs_match.specs.declared.arc_kind.ArcKind.{ArcKind}
use Rattle.vs_match.specs.declared.arc_kind.ArcKind.TheVariants.{Trip, Waiting, Deadhead, PullOut, PullIn, RestIn, RestWait, RestOut, Return}
use Rattle.vs_match.specs.declared.event.Point.{Point}
use Rattle.vs_match.specs.declared.layer_net.TheConstants.{MAX_ARC_COST}
use Rattle.vs_match.specs.LawfulNets.{IsLawfulArc}
use Rattle.vs_match.specs.LayerGraph.{kind_of}
use Rattle.vs_circ.specs.node_prices.Leeways.{spare}
use Rattle.vs_circ.specs.node_prices.NodePrices.{IsEmptyMove}
use Rattle.vs_circ.proofs.leeways.limit_of.Goals as goal

-- an empty move costs no more than the limit
few_cost : (p : Problem) (l : ℕ) (points : List Point) (kind : ArcKind) (a : Arc) → IsEmptyMove kind
    → IsLawfulArc p l points kind a → a.cost ≤ℤ MAX_ARC_COST
few_cost p l points (Trip i) a move arc = absurd move
few_cost p l points Waiting a move arc = arc.2.limit
few_cost p l points Deadhead a move arc = arc.2.limit
few_cost p l points PullOut a move arc = arc.2.limit
few_cost p l points PullIn a move arc = arc.2.limit
few_cost p l points RestIn a move arc = arc.2.limit
few_cost p l points RestWait a move arc = arc.2.limit
few_cost p l points RestOut a move arc = arc.2.limit
few_cost p l points Return a move arc = absurd move

-- these kinds are those of empty moves
empty_move : (kind : ArcKind) → (kind ≡ Waiting) ⊎ ((kind ≡ Deadhead) ⊎ ((kind ≡ PullOut) ⊎ ((kind ≡ PullIn)
    ⊎ ((kind ≡ RestIn) ⊎ ((kind ≡ RestWait) ⊎ (kind ≡ RestOut)))))) → IsEmptyMove kind
empty_move kind (inl e) = subst IsEmptyMove (sym e) tt
empty_move kind (inr (inl e)) = subst IsEmptyMove (sym e) tt
empty_move kind (inr (inr (inl e))) = subst IsEmptyMove (sym e) tt
empty_move kind (inr (inr (inr (inl e)))) = subst IsEmptyMove (sym e) tt
empty_move kind (inr (inr (inr (inr (inl e))))) = subst IsEmptyMove (sym e) tt
empty_move kind (inr (inr (inr (inr (inr (inl e)))))) = subst IsEmptyMove (sym e) tt
empty_move kind (inr (inr (inr (inr (inr (inr e)))))) = subst IsEmptyMove (sym e) tt

pub spare-requires-clause-worth : goal.spare-requires-clause-worth
spare-requires-clause-worth c =
    let is = c.arc-arc.ensures ∙ ap (λ (g : Graph). arc_of g c.args.k) c.net.ensures.graph in
    let move = subst IsEmptyMove c.kind.ensures (empty_move c.kind.result c.in-Waiting.is) in
    let no_gain = c.requires.prices.moves c.args.k c.requires.arc move in
    subst (λ (a : Arc). pos 0 ≤ℤ spare false c.args.prices.now a) (sym is) (omega (arith, ints, no_gain))

pub spare-requires-clause-cost : goal.spare-requires-clause-cost
spare-requires-clause-cost c =
    let n = c.args.net.now in
    let layer = c.requires.of_layer in
    let is = c.arc-arc.ensures ∙ ap (λ (g : Graph). arc_of g c.args.k) c.net.ensures.graph in
    let move = subst IsEmptyMove c.kind.ensures (empty_move c.kind.result c.in-Waiting.is) in
    subst (λ (a : Arc). a.cost ≤ℤ MAX_ARC_COST) (sym is)
    (few_cost layer.0 layer.1 n.points (kind_of n c.args.k) (arc_of n.graph c.args.k) move
    (layer.2.arcs c.args.k c.requires.arc))
