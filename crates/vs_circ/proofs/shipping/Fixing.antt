-- What a shipment shows that supplied the trips that have to run.
use Rattle.std.proofs.Common.{◌≡◌, ◌≤◌, ◌∙◌, ℕ, Bool, true, false, cond, List, [], ◌∷◌, length, get_or, refl, sym, ap, subst, arith, inl, inr, ℤ, pos, neg_ℤ, ◌≤ℤ◌}
use Rattle.std.proofs.lemmas.Int.{ints, clamps}
use Rattle.std.proofs.lemmas.Bool.{cases_lt, false≢true}
use Rattle.std.proofs.lemmas.List.{get_or_past}
use Rattle.vs_types.specs.declared.numbers.LayerNo.{LayerNo}
use Rattle.vs_layer.specs.declared.net.Flow.{Flow}
use Rattle.vs_layer.specs.Circulation.{flow_cost}
use Rattle.vs_instance.specs.declared.limits.TheConstants.{MAX_TRIPS}
use Rattle.vs_instance.specs.Problem.{Problem}
use Rattle.vs_instance.specs.Instance.{IsInstance}
use Rattle.vs_match.specs.LawfulNets.{IsLawful}
use Rattle.vs_match.specs.LayerGraph.{LayerGraph}
use Rattle.vs_path.specs.Residual.{AllWithin, HasSignRule, IsResidual, IsWithin, price_at}
use Rattle.vs_path.specs.Raising.{HasSpan}
use Rattle.vs_ship.specs.declared.gaps.TheConstants.{MAX_NODE_PRICE}
use Rattle.vs_circ.specs.declared.circ.FixedFlow.TheVariants.{Covered, Short}
use Rattle.vs_circ.specs.declared.circ.LayerPrices.{LayerPrices}
use Rattle.vs_ship.specs.declared.shipment.Shipment.{Shipment}
use Rattle.vs_circ.specs.Circulations.{IsFixed}
use Rattle.vs_ship.specs.Gaps.{AreNear}
use Rattle.vs_circ.specs.LayerPrices.{AreHolding}
use Rattle.vs_circ.specs.node_prices.NodePrices.{HasMovePrices}
use Rattle.vs_circ.specs.Offers.{AreMust}
use Rattle.vs_circ.specs.PricedFlows.{IsPricedFlow, IsStuckAt, PaysNoLess}
use Rattle.vs_ship.specs.Shipments.{IsDrained, excess, residual_of}
use Rattle.vs_circ.specs.shipping.Supplied.{AreRun, AreStuckPrices, HasStuckUnits, IsSupplied}
use Rattle.vs_ship.proofs.CallerLemmas.{is_in, is_in-from, is_in-to, one_where, sign-near}
use Rattle.vs_circ.proofs.low.Covered.{covered_circulations}
use Rattle.vs_circ.proofs.low.Stuck.{stuck_trips}
use Rattle.vs_circ.proofs.shipping.Covering.{covers, covers-priced}
use Rattle.vs_circ.proofs.shipping.Stuck.{stuck-at}

excess-some : (surplus : List ℤ) → pos 0 ≤ℤ excess surplus
excess-some [] = omega (arith, ints)
excess-some (z ∷ surplus) = let rest = excess-some surplus in omega (arith, ints, clamps, rest)

-- no arc carries more units than there are trips
few_units : (n : LayerGraph) (must : List Bool) (s : Shipment) → IsSupplied n must s → (k : ℕ)
    → get_or s.flow.units.items k 0 ≤ MAX_TRIPS
few_units n must s supplied k =
    elim (cases_lt k (length n.graph.arcs)) [
      | inl within ↦
          let few = supplied.few k within in
          let some = excess-some s.surplus.items in
          omega (arith, ints, few, some)
      | inr past ↦
          let none = get_or_past s.flow.units.items k 0 (omega (arith, past, supplied.can.sized.units)) in
          omega (arith, none)
    ]

-- a node has the price -1 where units are stuck at it, by the test as by the list
stuck-price : (nodes : List ℕ) (prices : List ℤ) → AreStuckPrices nodes prices → (v : ℕ)
    → price_at prices v ≡ neg_ℤ (one_where (is_in nodes) v)
stuck-price nodes prices are v = go (is_in nodes v) refl
  where
    go : (b : Bool) → is_in nodes v ≡ b → price_at prices v ≡ neg_ℤ (cond b (pos 1) (pos 0))
    go true e = let is = is_in-to nodes v e in ap (price_at prices) (sym is.2) ∙ are.stuck is.0 is.1
    go false e = are.others v (λ is. false≢true (sym e ∙ is_in-from nodes v is))

-- none of these prices is great
stuck-small : (nodes : List ℕ) (prices : List ℤ) → AreStuckPrices nodes prices → (v : ℕ)
    → IsWithin (pos 1) (price_at prices v)
stuck-small nodes prices are v = go (is_in nodes v) (stuck-price nodes prices are v)
  where
    go : (b : Bool) → price_at prices v ≡ neg_ℤ (cond b (pos 1) (pos 0)) → IsWithin (pos 1) (price_at prices v)
    go true is = record { low = omega (arith, ints, is); high = omega (arith, ints, is) }
    go false is = record { low = omega (arith, ints, is); high = omega (arith, ints, is) }

pub stuck-within : (nodes : List ℕ) (prices : List ℤ) → AreStuckPrices nodes prices → AllWithin MAX_NODE_PRICE prices
stuck-within nodes prices are v =
    let small = stuck-small nodes prices are v in
    record { low = omega (arith, ints, small.low); high = omega (arith, ints, small.high) }

-- no two of them lie far apart
pub stuck-span : (nodes : List ℕ) (prices : List ℤ) → AreStuckPrices nodes prices → HasSpan MAX_NODE_PRICE prices
stuck-span nodes prices are u v here there =
    let one = stuck-small nodes prices are u in
    let other = stuck-small nodes prices are v in
    omega (arith, ints, one.high, other.low)

module _ (n : LayerGraph) (must : List Bool) (nodes : List ℕ) (prices : List ℤ) (stuck : HasStuckUnits n must nodes)
    (are : AreStuckPrices nodes prices) where
  -- by these prices the trips that have to run can't all be run
  pub stuck-by_prices : (p : Problem) (l : LayerNo) → IsLawful p l.0 n → IsStuckAt n must prices
  stuck-by_prices p l lawful =
      let s = stuck.shipment in
      let is = stuck.supplied in
      stuck-at p l n lawful must s stuck.source nodes is.can stuck.stuck
      (λ weight.
      let balanced = is.balanced weight in let supply = is.supply_is weight in omega (arith, ints, balanced, supply))
      is.room
      (few_units n must s is) prices (stuck-price nodes prices are)

  pub short-fixed : (given : LayerPrices) → PaysNoLess n (length must) prices given
      → ((p : Problem) (l : ℕ) → IsInstance p → IsLawful p l n → length p.trips ≡ length must
      → AreHolding p l true given)
      → (p : Problem) (l : LayerNo) → IsInstance p → IsLawful p l.0 n → AreMust p l.0 must
      → IsFixed p l n must (Short given)
  short-fixed given pays holding p l instance lawful are_must =
      stuck_trips p l n must prices given instance lawful are_must (stuck-by_prices p l lawful)
      (holding p l.0 instance lawful (sym are_must.each_trip))
      (subst (λ (trips : ℕ). PaysNoLess n trips prices given) are_must.each_trip pays)

module _ (n : LayerGraph) (must : List Bool) (s : Shipment) (supplied : IsSupplied n must s)
    (drained : IsDrained s.surplus.items) (flow : Flow)
    (run : AreRun n must s.flow.units.items flow.units.items) (prices : List ℤ)
    (near : AreNear s.prices.items prices) where
  module _ (p : Problem) (l : LayerNo) (is : IsInstance p) (lawful : IsLawful p l.0 n) (are : AreMust p l.0 must) where
    residual : IsResidual (residual_of n.graph s)
    residual = record {
      net = lawful.net;
      units = supplied.can.sized.units;
      cost = supplied.can.sized.cost;
      room = supplied.can.sized.room;
      arcs = omega arith;
    }

    rule : HasSignRule (residual_of n.graph s) prices
    rule =
        sign-near (residual_of n.graph s) s.prices.items prices residual supplied.can.costs
        supplied.can.sized.prices near supplied.can.signs

    priced : IsPricedFlow n flow.units.items prices
    priced = covers-priced p is l n lawful must are s supplied drained flow.units.items run prices rule

    -- the near prices are prices of the nodes from which a layer's can be made
    pub near-moves : HasMovePrices n prices
    near-moves = record {
      each_node = near.size ∙ supplied.can.sized.prices;
      within = near.within;
      span = near.span;
      moves = priced.moves;
    }

  pub covered-fixed : (given : LayerPrices) (cost : ℤ) → PaysNoLess n (length must) prices given
      → ((p : Problem) (l : ℕ) → IsInstance p → IsLawful p l n → length p.trips ≡ length must
      → AreHolding p l false given)
      → cost ≡ flow_cost n.graph flow.units.items
      → (p : Problem) (l : LayerNo) → IsInstance p → IsLawful p l.0 n → AreMust p l.0 must
      → IsFixed p l n must (Covered flow given cost)
  covered-fixed given cost pays holding is_cost p l instance lawful are =
      covered_circulations p l n must prices flow given cost instance lawful
      (covers p instance l n lawful must are s supplied drained flow.units.items run)
      (priced p l instance lawful are)
      (holding p l.0 instance lawful (sym are.each_trip))
      (subst (λ (trips : ℕ). PaysNoLess n trips prices given) are.each_trip pays) is_cost
