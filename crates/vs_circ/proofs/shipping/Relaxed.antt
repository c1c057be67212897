-- The units of a settled shipment are a least circulation, with any prices at which they stay settled.
use Rattle.std.proofs.Common.{◌≡◌, ℕ, false, List, length, sym, subst, ◌∙◌, Option, ℤ}
use Rattle.vs_types.specs.declared.numbers.LayerNo.{LayerNo}
use Rattle.vs_layer.specs.Circulation.{IsCirculation}
use Rattle.vs_instance.specs.Problem.{Problem}
use Rattle.vs_instance.specs.Instance.{IsInstance}
use Rattle.vs_match.specs.LawfulNets.{IsLawful}
use Rattle.vs_match.specs.LayerGraph.{LayerGraph}
use Rattle.vs_circ.specs.declared.circ.Circ.{Circ}
use Rattle.vs_ship.specs.declared.shipment.Shipment.{Shipment}
use Rattle.vs_ship.specs.Centring.{AreSettled}
use Rattle.vs_circ.specs.Circulations.{IsLeastCirculation}
use Rattle.vs_circ.specs.LayerPrices.{AreHolding}
use Rattle.vs_circ.specs.node_prices.NodePrices.{HasMovePrices}
use Rattle.vs_circ.specs.Offers.{AreOffers}
use Rattle.vs_circ.specs.PricedFlows.{IsPricedFlow, KeepsOffers, PaysNoLess}
use Rattle.vs_circ.specs.shipping.Settled.{IsSettled}
use Rattle.vs_ship.specs.Shipments.{residual_of}
use Rattle.vs_circ.specs.shipping.Values.{worth_of_units}
use Rattle.vs_circ.proofs.low.Least.{least_circulations}
use Rattle.vs_circ.proofs.low.Worth.{worth-is}
use Rattle.vs_circ.proofs.shipping.Settling.{settled-flow, settled-keeps}

module _ (p : Problem) (is : IsInstance p) (l : LayerNo) (n : LayerGraph) (lawful : IsLawful p l.0 n)
    (offers : List (Option ℤ)) (s : Shipment) (settled : IsSettled n offers s) (prices : List ℤ)
    (centred : AreSettled (residual_of n.graph s) prices) where
  -- nobody gains by these prices either
  flow : IsPricedFlow n s.flow.units.items prices
  flow = settled-flow p is l n lawful offers s settled.sized settled.offered settled.flow.balanced prices
      centred.sign_rule

  -- and they keep the offers
  keeps : KeepsOffers n offers s.flow.units.items prices
  keeps = settled-keeps p is l n lawful offers s settled.sized settled.offered settled.flow.balanced prices
      centred.sign_rule

  -- no empty move is worth more than it costs
  pub centred-moves : HasMovePrices n prices
  centred-moves = record {
    each_node = centred.each_node;
    within = centred.within;
    span = centred.span;
    moves = flow.moves;
  }

  pub least-of-settled : (c : Circ) → AreOffers p l.0 offers → c.flow.units.items ≡ s.flow.units.items
      → AreHolding p l.0 false c.prices → PaysNoLess n (length p.trips) prices c.prices
      → c.value ≡ worth_of_units s.costs.cost.items c.flow.units.items → IsLeastCirculation p l n offers c
  least-of-settled c are same holding pays worth =
      let units = c.flow.units.items in
      let Circulation : List ℕ → Type 0 = λ us. IsCirculation n.graph us in
      let Priced : List ℕ → Type 0 = λ us. IsPricedFlow n us prices in
      let Kept : List ℕ → Type 0 = λ us. KeepsOffers n offers us prices in
      let priced = subst Priced (sym same) flow in
      least_circulations p l n offers prices c is lawful are (subst Circulation (sym same) settled.circulation) priced
      (subst Kept (sym same) keeps) holding pays
      (worth ∙ worth-is n offers s.costs.cost.items units lawful.labelled priced.each_arc settled.offered.costs)
