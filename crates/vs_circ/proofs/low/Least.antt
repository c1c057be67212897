-- A circulation at which nobody gains, and which keeps the offers, is a least one.
use Rattle.std.proofs.Common.{◌≡◌, ℕ, zero, suc, ◌<◌, ◌≤◌, false, List, length, refl, sym, ap, ◌∙◌, subst, arith, inl, inr, Option, Some, None, ℤ, pos, ◌-ℤ◌, ◌*ℤ◌, ◌≤ℤ◌}
use Rattle.std.specs.Prelude.{IsSome, slice_index}
use Rattle.std.specs.List.{range_with_len}
use Rattle.std.proofs.lemmas.Int.{ints, clamps}
use Rattle.vs_types.proofs.CallerLemmas.{times_none, times_one}
use Rattle.vs_layer.specs.Circulation.{IsCirculation, flow_cost}
use Rattle.vs_types.specs.declared.numbers.LayerNo.{LayerNo}
use Rattle.vs_instance.specs.Problem.{Problem}
use Rattle.vs_instance.specs.Instance.{IsInstance}
use Rattle.vs_instance.specs.Ways.{layer_of}
use Rattle.vs_instance.specs.HoldingTable.{HoldsInLayer}
use Rattle.vs_instance.specs.Lagrangian.{IsLowOf, reduced_cost}
use Rattle.vs_instance.specs.Plan.{LayerBlock}
use Rattle.vs_instance.proofs.CallerLemmas.{total-map_sub, total-range_le}
use Rattle.vs_match.specs.declared.arc_kind.ArcKind.{ArcKind}
use Rattle.vs_match.specs.Decomposition.{Decompose}
use Rattle.vs_match.specs.LawfulNets.{IsLawful}
use Rattle.vs_match.specs.LayerGraph.{IsArcOfTrip, LayerGraph}
use Rattle.vs_match.proofs.CallerLemmas.{circulation_decomposes}
use Rattle.vs_circ.specs.declared.circ.LayerPrices.{LayerPrices}
use Rattle.vs_circ.specs.Circulations.{IsLeastFlow, RunTrip, paid_by_units, paid_on}
use Rattle.vs_circ.specs.LayerPrices.{pays_at, shown_of_offers, trip_pays}
use Rattle.vs_circ.specs.Laws.{LeastCirculations}
use Rattle.vs_circ.specs.Offers.{AreOffers, IsOffered, multipliers_of, offer_of, paid}
use Rattle.vs_circ.specs.PricedFlows.{IsPricedFlow, KeepsOffers, PaysNoLess, arc_pays}
use Rattle.vs_circ.proofs.low.ArcTotals.{arc_pays_units, paid_on_units}
use Rattle.vs_circ.proofs.low.LayerBounds.{multiplier_of-offer, offers_bound}
use Rattle.vs_circ.proofs.low.Slackness.{cost_by_trips}
use Rattle.vs_circ.proofs.low.TripArcs.{arc_or_none, at_trip, at_trip-arc, at_trip-none, total-by_trip}
use Rattle.vs_circ.proofs.low.TripPays.{trip_pays_no_less}
use Rattle.vs_circ.proofs.low.UnitBlocks.{are_blocks, arcs_inside, paid_by_trips, paid_the_same}

-- a trip that runs where its offer meets what its arc pays, and else rests, gains no less by its offer than by its run
met_offer : (offer : Option ℤ) (arc trip : ℤ) (u : ℕ) → u ≤ 1 → arc ≤ℤ trip
    → (0 < u → (m : ℤ) × (offer ≡ Some m) × (arc ≤ℤ m)) → ((m : ℤ) → u ≡ 0 → offer ≡ Some m → m ≤ℤ arc)
    → (arc *ℤ pos u -ℤ paid offer *ℤ pos u) ≤ℤ pays_at offer trip
met_offer None arc trip zero few less runs rests =
    let priced = times_none arc in
    let unpaid = times_none (pos 0) in
    omega (arith, ints, priced, unpaid)
met_offer None arc trip (suc u) few less runs rests = let offered = (runs (omega arith)).1 in cc
met_offer (Some m) arc trip zero few less runs rests =
    let priced = times_none arc in
    let unpaid = times_none m in
    let low = rests m refl refl in
    omega (arith, ints, clamps, priced, unpaid, low)
met_offer (Some m) arc trip (suc zero) few less runs rests =
    let priced = times_one arc in
    let once = times_one m in
    let run = runs (omega arith) in
    let same : m ≡ run.0 = cc (run.1) in
    let high = run.2 in
    omega (arith, ints, clamps, priced, once, same, high)
met_offer (Some m) arc trip (suc (suc u)) few less runs rests = absurd (omega arith)

-- a trip that isn't offered gains nothing
not_offered : (offer : Option ℤ) (x : ℤ) → ¬ (IsSome offer) → pays_at offer x ≡ pos 0
not_offered None x none = refl
not_offered (Some m) x none = absurd (none refl)

module _ (p : Problem) (l : LayerNo) (n : LayerGraph) (offers : List (Option ℤ)) (prices : List ℤ) (units : List ℕ)
    (given : LayerPrices) (instance : IsInstance p) (lawful : IsLawful p l.0 n) (are : AreOffers p l.0 offers)
    (circulation : IsCirculation n.graph units) (flow : IsPricedFlow n units prices)
    (keeps : KeepsOffers n offers units prices)
    (holds : HoldsInLayer p l.0 false given.into.items given.from.items given.fleet)
    (pays : PaysNoLess n (length p.trips) prices given) where
  -- the cost of the units less the multipliers of their trips
  abbrev value : ℤ
  value = flow_cost n.graph units -ℤ paid_by_units (multipliers_of offers) n.kinds units

  -- what a trip's arc costs beyond what it brings, and what it is paid
  abbrev arcs_pay : ℕ → ℤ
  arcs_pay = at_trip n.kinds (arc_pays_units n units prices)

  abbrev arcs_paid : ℕ → ℤ
  arcs_paid = at_trip n.kinds (paid_on_units n units (multipliers_of offers))

  -- a trip's arc is paid what the trip is offered for
  arc_paid : (i k : ℕ) → IsArcOfTrip n.kinds i k
      → paid_on_units n units (multipliers_of offers) k ≡ paid (offer_of offers i) *ℤ pos (slice_index units k)
  arc_paid i k arc =
      ap (λ (kind : ArcKind). paid_on (multipliers_of offers) kind *ℤ pos (slice_index units k)) arc.1
      ∙ ap (λ (m : ℤ). m *ℤ pos (slice_index units k)) (multiplier_of-offer offers i)

  -- trip by trip the flow is worth no more than the prices show
  trip_shown : (i : ℕ) → i < length p.trips
      → (arcs_pay i -ℤ arcs_paid i) ≤ℤ pays_at (offer_of offers i) (trip_pays p l.0 false given i)
  trip_shown i inside =
      elim (arc_or_none n.kinds i) [
        | inl found ↦
            let k = found.0 in
            let arc = found.1 in
            let one = λ (j : ℕ) (other : IsArcOfTrip n.kinds i j). lawful.one_arc i j k other arc in
            let pay = at_trip-arc n.kinds (arc_pays_units n units prices) i k arc one in
            let paid_is = at_trip-arc n.kinds (paid_on_units n units (multipliers_of offers)) i k arc one
            ∙ arc_paid i k arc in
            let met = met_offer (offer_of offers i) (arc_pays n prices k) (trip_pays p l.0 false given i)
            (slice_index units k) (flow.once i k arc) (trip_pays_no_less p l n lawful prices given pays false i k arc)
            (keeps.runs i k arc) (λ m none is. keeps.rests i k m arc none is) in
            omega (arith, ints, pay, paid_is, met)
        | inr none ↦
            let pay = at_trip-none n.kinds (arc_pays_units n units prices) i none in
            let paid_is = at_trip-none n.kinds (paid_on_units n units (multipliers_of offers)) i none in
            let nothing = not_offered (offer_of offers i) (trip_pays p l.0 false given i)
            (λ offered. let arc = lawful.each_trip i (inside, are.permitted i offered) in none arc.0 arc.1) in
            omega (arith, ints, pay, paid_is, nothing)
      ]

  -- the prices show no less than the value
  value_shown : value ≤ℤ shown_of_offers p l.0 offers given
  value_shown =
      let cost = cost_by_trips p l n lawful units prices flow in
      let trips = total-by_trip n.kinds (arc_pays_units n units prices) (length p.trips)
      (arcs_inside p l n lawful units) in
      let paid_is = paid_by_trips p l n lawful units (multipliers_of offers) flow.each_arc in
      let split = total-map_sub arcs_pay arcs_paid (range_with_len 0 (length p.trips)) in
      let shown = total-range_le (λ i. arcs_pay i -ℤ arcs_paid i)
      (λ i. pays_at (offer_of offers i) (trip_pays p l.0 false given i)) 0 (length p.trips)
      (λ i from within. trip_shown i (omega arith)) in
      let vehicles = ap (λ (x : ℤ). x *ℤ pos (layer_of p l.0).fleet) pays.vehicle in
      omega (arith, ints, cost, trips, paid_is, split, shown, vehicles)

  -- a trip that the units run is offered
  run_offered : (i : ℕ) → RunTrip n units i → IsOffered offers i
  run_offered i run =
      let offer = keeps.runs i run.0 run.1 run.2 in
      subst (λ (o : Option ℤ). IsSome o) (sym offer.1) refl

  module _ (blocks : List LayerBlock) (parts : Decompose p l n units blocks) where
    -- the blocks of the circulation have no more than its value
    blocks_value : reduced_cost p (multipliers_of offers) blocks ≤ℤ value
    blocks_value =
        let paid_is = paid_the_same p l n lawful units circulation blocks parts (multipliers_of offers) in
        let cost = parts.no_dearer in
        omega (arith, ints, paid_is, cost)

    -- so value, blocks and prices meet
    is_low : IsLowOf p l (IsOffered offers) (multipliers_of offers) value
    is_low =
        let such = are_blocks p l n lawful units circulation blocks parts (IsOffered offers) run_offered in
        let bound = offers_bound p l given instance holds offers in
        let here = bound blocks such in
        let shown = value_shown in
        let most = blocks_value in
        record {
          blocks = blocks;
          are_blocks = such;
          cost = omega (arith, ints, here, shown, most);
          least = λ others are_such. let no_more = bound others are_such in omega (arith, ints, shown, no_more);
        }

    -- the prices show the value
    value_is_shown : shown_of_offers p l.0 offers given ≡ value
    value_is_shown =
        let here = offers_bound p l given instance holds offers blocks
        (are_blocks p l n lawful units circulation blocks parts (IsOffered offers) run_offered) in
        let shown = value_shown in
        let most = blocks_value in
        omega (arith, ints, here, shown, most)

  -- the circulation is least
  pub least_flow : IsLeastFlow p l n offers units value
  least_flow =
      let parts = circulation_decomposes p instance l n lawful units circulation in
      record {
        circulation = circulation;
        offered = run_offered;
        value_is = refl;
        low = is_low parts.0 parts.1;
      }

  -- and the prices show its value
  value_shown_exactly : shown_of_offers p l.0 offers given ≡ value
  value_shown_exactly =
      let parts = circulation_decomposes p instance l n lawful units circulation in value_is_shown parts.0 parts.1

-- the law
pub least_circulations : LeastCirculations
least_circulations p l n offers prices c instance lawful are circulation flow keeps holding pays is =
    let units = c.flow.units.items in
    let holds = holding.holds in
    record {
      least = subst (λ (v : ℤ). IsLeastFlow p l n offers units v) (sym is)
          (least_flow p l n offers prices units c.prices instance lawful are circulation flow keeps holds pays);
      holding = holding;
      shows =
          value_shown_exactly p l n offers prices units c.prices instance lawful are circulation flow keeps holds pays
          ∙ sym is;
    }
