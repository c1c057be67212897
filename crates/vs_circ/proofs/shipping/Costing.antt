-- What a flow at which nobody gains costs is what its trips and the way back pay by the prices.
use Rattle.std.proofs.Common.{◌≡◌, ℕ, suc, ◌+◌, ◌<◌, ◌^◌, List, length, inl, inr, arith, ℤ, pos, negsuc, ◌+ℤ◌, ◌*ℤ◌}
use Rattle.std.proofs.lemmas.Int.{ints}
use Rattle.std.proofs.lemmas.Nat.{mul-le}
use Rattle.vs_types.specs.declared.numbers.LayerNo.{LayerNo}
use Rattle.vs_instance.proofs.CallerLemmas.{total-range_next}
use Rattle.vs_layer.specs.Circulation.{flow_cost}
use Rattle.vs_instance.specs.Problem.{Problem}
use Rattle.vs_match.specs.LawfulNets.{IsLawful}
use Rattle.vs_match.specs.LayerGraph.{LayerGraph, IsArcOfTrip}
use Rattle.vs_path.specs.Residual.{IsWithin}
use Rattle.vs_circ.specs.declared.costing.TheConstants.{MAX_PAID}
use Rattle.vs_circ.specs.PricedFlows.{IsPricedFlow, last_arc}
use Rattle.vs_circ.specs.shipping.Costing.{IsPaidByTrip, units_pay}
use Rattle.vs_circ.proofs.low.Reindexing.{over_range}
use Rattle.vs_circ.proofs.low.Slackness.{cost_by_trips, return_pays}
use Rattle.vs_circ.proofs.low.TripArcs.{arc_or_none, at_trip, at_trip-arc, at_trip-none, total-by_trip}
use Rattle.vs_circ.proofs.low.UnitBlocks.{arcs_inside}

-- what the units of an arc pay is a number of 96 bits
pub paid-within : (pays : ℤ) (u : ℕ) → IsWithin MAX_PAID pays → u < 4294967296
    → IsWithin (pos (2 ^ 95)) (pays *ℤ pos u)
paid-within (pos m) u within few =
    let product = mul-le m u 8000020000000000000 4294967296 (omega (arith, ints, within.high)) (omega arith) in
    record { low = omega (arith, ints); high = omega (arith, ints, product) }
paid-within (negsuc m) u within few =
    let product = mul-le (suc m) u 8000020000000000000 4294967296 (omega (arith, ints, within.low)) (omega arith) in
    record { low = omega (arith, ints, product); high = omega (arith, ints) }

module _ (n : LayerGraph) (units : List ℕ) (prices : List ℤ) where
  -- what the trips before trip i pay
  abbrev pub paid_before : ℕ → ℤ
  paid_before = over_range (at_trip n.kinds (units_pay n units prices)) 0

  -- one trip more
  pub paid-more : (i : ℕ) (pays : ℤ) → ((j k m : ℕ) → IsArcOfTrip n.kinds j k → IsArcOfTrip n.kinds j m → k ≡ m)
      → IsPaidByTrip n units prices i pays → paid_before (i + 1) ≡ paid_before i +ℤ pays
  paid-more i pays one is =
      let next = total-range_next (at_trip n.kinds (units_pay n units prices)) i in
      elim (arc_or_none n.kinds i) [
        | inl found ↦
            let k = found.0 in
            let arc = found.1 in
            let here = at_trip-arc n.kinds (units_pay n units prices) i k arc (λ j other. one i j k other arc) in
            let paid = is.with_arc k arc in
            omega (arith, ints, next, here, paid)
        | inr none ↦
            let here = at_trip-none n.kinds (units_pay n units prices) i none in
            let paid = is.without none in
            omega (arith, ints, next, here, paid)
      ]

  -- the flow costs what the way back and all trips pay
  pub cost-of_all : (p : Problem) (l : LayerNo) → IsLawful p l.0 n → IsPricedFlow n units prices
      → flow_cost n.graph units ≡ units_pay n units prices (last_arc n) +ℤ paid_before (length p.trips)
  cost-of_all p l lawful flow =
      let cost = cost_by_trips p l n lawful units prices flow in
      let back = return_pays p l n lawful units prices flow in
      let trips = total-by_trip n.kinds (units_pay n units prices) (length p.trips)
      (arcs_inside p l n lawful units) in
      omega (arith, ints, cost, back, trips)
