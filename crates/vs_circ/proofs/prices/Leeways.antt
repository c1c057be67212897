-- What empty moves are worth once the prices of the nodes are moved by their leeways.
use Rattle.std.proofs.Common.{◌≡◌, ℕ, ◌<◌, Bool, List, length, refl, subst, arith, ℤ, pos, ◌+ℤ◌, ◌-ℤ◌, ◌≤ℤ◌}
use Rattle.std.specs.Prelude.{slice_index}
use Rattle.std.proofs.lemmas.Int.{ints}
use Rattle.vs_layer.specs.Graph.{IsNet, arc_of}
use Rattle.vs_match.specs.declared.arc_kind.ArcKind.{ArcKind}
use Rattle.vs_match.specs.declared.arc_kind.ArcKind.TheVariants.{Trip, Waiting, Deadhead, PullOut, PullIn, RestIn, RestWait, RestOut, Return}
use Rattle.vs_match.specs.LayerGraph.{LayerGraph, IsArcOfTrip, IsLabelled, kind_of}
use Rattle.vs_path.specs.Residual.{price_at}
use Rattle.vs_circ.specs.declared.leeways.Side.{Side}
use Rattle.vs_circ.specs.declared.leeways.Side.TheVariants.{Leaving, Entering}
use Rattle.vs_circ.specs.node_prices.NodePrices.{IsEmptyMove}
use Rattle.vs_circ.specs.node_prices.Leeways.{AreLeeways, Allows}
use Rattle.vs_circ.proofs.prices.Walking.{AreMoveWeights}

-- an empty move allows no more than so much
pub allows-move : (kind : ArcKind) (most : ℤ) (leeway : ℕ) → IsEmptyMove kind → Allows kind most leeway
    → pos leeway ≤ℤ most
allows-move (Trip i) most leeway is allows = absurd is
allows-move Waiting most leeway is allows = allows
allows-move Deadhead most leeway is allows = allows
allows-move PullOut most leeway is allows = allows
allows-move PullIn most leeway is allows = allows
allows-move RestIn most leeway is allows = allows
allows-move RestWait most leeway is allows = allows
allows-move RestOut most leeway is allows = allows
allows-move Return most leeway is allows = absurd is

-- a trip allows none
pub allows-trip : (kind : ArcKind) (most : ℤ) (i leeway : ℕ) → kind ≡ Trip (record { 0 = i }) → Allows kind most leeway
    → leeway ≡ 0
allows-trip kind most i leeway is allows = subst (λ (k : ArcKind). Allows k most leeway) is allows

-- the price of a node, moved by all its leeway
abbrev pub moved_price : Side → List ℤ → List ℕ → ℕ → ℤ
moved_price Leaving prices leeways v = price_at prices v -ℤ pos (slice_index leeways v)
moved_price Entering prices leeways v = price_at prices v +ℤ pos (slice_index leeways v)

module _ (n : LayerGraph) (net : IsNet n.graph) (ray : Bool) (prices : List ℤ) (leeways : List ℕ) where
  -- moved by leeways for leaving, no empty move is worth more than it costs
  pub moved-leaving : AreLeeways n ray Leaving prices leeways
      → AreMoveWeights n ray (moved_price Leaving prices leeways)
  moved-leaving are k within is =
      let at = net.each_arc k within in
      let least = allows-move (kind_of n k) _ _ is
      ((are.allowed (arc_of n.graph k).from at.from).each_arc k within refl) in
      omega (arith, ints, least)

  -- nor moved by those for entering
  pub moved-entering : AreLeeways n ray Entering prices leeways
      → AreMoveWeights n ray (moved_price Entering prices leeways)
  moved-entering are k within is =
      let at = net.each_arc k within in
      let least = allows-move (kind_of n k) _ _ is
      ((are.allowed (arc_of n.graph k).to at.to).each_arc k within refl) in
      omega (arith, ints, least)

  -- where a trip departs, prices for leaving have no leeway
  pub still-leaving : AreLeeways n ray Leaving prices leeways → IsLabelled n → (i k : ℕ) → IsArcOfTrip n.kinds i k
      → slice_index leeways (arc_of n.graph k).from ≡ 0
  still-leaving are labelled i k is =
      let within : k < length n.graph.arcs = omega (arith, is.0, labelled.each_arc) in
      allows-trip (kind_of n k) _ i _ is.1
      ((are.allowed (arc_of n.graph k).from (net.each_arc k within).from).each_arc k within refl)

  -- where a trip arrives, prices for entering have none
  pub still-entering : AreLeeways n ray Entering prices leeways → IsLabelled n → (i k : ℕ) → IsArcOfTrip n.kinds i k
      → slice_index leeways (arc_of n.graph k).to ≡ 0
  still-entering are labelled i k is =
      let within : k < length n.graph.arcs = omega (arith, is.0, labelled.each_arc) in
      allows-trip (kind_of n k) _ i _ is.1
      ((are.allowed (arc_of n.graph k).to (net.each_arc k within).to).each_arc k within refl)
