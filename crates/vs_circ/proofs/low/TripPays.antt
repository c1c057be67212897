-- By the prices of a layer each trip pays no less than by those of the nodes.
use Rattle.std.proofs.Common.{ℕ, Bool, true, false, List, arith, ℤ, ◌+ℤ◌, ◌-ℤ◌, ◌≤ℤ◌, length}
use Rattle.std.proofs.lemmas.Int.{ints}
use Rattle.vs_layer.specs.Graph.{arc_of}
use Rattle.vs_types.specs.declared.numbers.LayerNo.{LayerNo}
use Rattle.vs_instance.specs.Problem.{Problem}
use Rattle.vs_match.specs.LawfulNets.{IsLawful}
use Rattle.vs_match.specs.LayerGraph.{IsArcOfTrip, LayerGraph}
use Rattle.vs_path.specs.Residual.{price_at}
use Rattle.vs_circ.specs.declared.circ.LayerPrices.{LayerPrices}
use Rattle.vs_circ.specs.LayerPrices.{trip_pays}
use Rattle.vs_circ.specs.node_prices.NodePrices.{arc_cost}
use Rattle.vs_circ.specs.PricedFlows.{PaysNoLess}
use Rattle.vs_circ.proofs.low.LawfulArcs.{trip_arc}

module _ (p : Problem) (l : LayerNo) (n : LayerGraph) (lawful : IsLawful p l.0 n) (prices : List ℤ)
    (given : LayerPrices) (pays : PaysNoLess n (length p.trips) prices given) where
  -- a trip pays no less than its arc does from node to node
  pub trip_pays_no_less : (ray : Bool) (i k : ℕ) → IsArcOfTrip n.kinds i k
      → ((arc_cost ray (arc_of n.graph k) +ℤ price_at prices (arc_of n.graph k).from)
      -ℤ price_at prices (arc_of n.graph k).to)
      ≤ℤ trip_pays p l.0 ray given i
  trip_pays_no_less false i k arc =
      let is = trip_arc p l n lawful i k arc in
      let cost = is.cost in
      let apart = pays.each_trip i k is.may_run.0 arc in
      omega (arith, ints, cost, apart)
  trip_pays_no_less true i k arc =
      let is = trip_arc p l n lawful i k arc in
      let apart = pays.each_trip i k is.may_run.0 arc in
      omega (arith, ints, apart)
