-- What circulations with prices of the nodes show.
use Rattle.std.specs.Prelude.{◌≡◌, true, false, Bool, List, Option, ℤ, ◌-ℤ◌, length}
use Rattle.vs_types.specs.declared.numbers.LayerNo.{LayerNo}
use Rattle.vs_layer.specs.declared.net.Flow.{Flow}
use Rattle.vs_layer.specs.Circulation.{IsCirculation, flow_cost}
use Rattle.vs_instance.specs.Problem.{Problem}
use Rattle.vs_instance.specs.Instance.{IsInstance}
use Rattle.vs_match.specs.LawfulNets.{IsLawful}
use Rattle.vs_match.specs.LayerGraph.{LayerGraph}
use Rattle.vs_circ.specs.declared.circ.Circ.{Circ}
use Rattle.vs_circ.specs.declared.circ.FixedFlow.TheVariants.{Covered, Short}
use Rattle.vs_circ.specs.declared.circ.LayerPrices.{LayerPrices}
use Rattle.vs_circ.specs.Circulations.{CoverExactly, IsFixed, IsLeastCirculation, paid_by_units}
use Rattle.vs_circ.specs.LayerPrices.{AreHolding}
use Rattle.vs_circ.specs.Offers.{AreMust, AreOffers, multipliers_of}
use Rattle.vs_circ.specs.PricedFlows.{IsPricedFlow, IsStuckAt, KeepsOffers, PaysNoLess}

-- a circulation at which nobody gains by the prices of the nodes, and which keeps the offers, is a least one
abbrev pub LeastCirculations : Type 0
LeastCirculations =
    (p : Problem) (l : LayerNo) (n : LayerGraph) (offers : List (Option ℤ)) (prices : List ℤ) (c : Circ)
    → IsInstance p → IsLawful p l.0 n → AreOffers p l.0 offers → IsCirculation n.graph c.flow.units.items
    → IsPricedFlow n c.flow.units.items prices → KeepsOffers n offers c.flow.units.items prices
    → AreHolding p l.0 false c.prices → PaysNoLess n (length p.trips) prices c.prices
    → c.value ≡ flow_cost n.graph c.flow.units.items
    -ℤ paid_by_units (multipliers_of offers) n.kinds c.flow.units.items
    → IsLeastCirculation p l n offers c

-- a circulation at which nobody gains, and which runs exactly the trips that have to run, is a least one that does so
abbrev pub CoveredCirculations : Type 0
CoveredCirculations =
    (p : Problem) (l : LayerNo) (n : LayerGraph) (must : List Bool) (prices : List ℤ) (flow : Flow)
    (given : LayerPrices) (cost : ℤ)
    → IsInstance p → IsLawful p l.0 n → CoverExactly n must flow.units.items
    → IsPricedFlow n flow.units.items prices → AreHolding p l.0 false given → PaysNoLess n (length p.trips) prices given
    → cost ≡ flow_cost n.graph flow.units.items → IsFixed p l n must (Covered flow given cost)

-- where units are stuck, no circulation runs exactly the trips that have to run
abbrev pub StuckTrips : Type 0
StuckTrips =
    (p : Problem) (l : LayerNo) (n : LayerGraph) (must : List Bool) (prices : List ℤ) (given : LayerPrices)
    → IsInstance p → IsLawful p l.0 n → AreMust p l.0 must → IsStuckAt n must prices
    → AreHolding p l.0 true given → PaysNoLess n (length p.trips) prices given → IsFixed p l n must (Short given)
