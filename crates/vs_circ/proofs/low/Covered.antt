-- A circulation at which nobody gains, and which runs exactly the trips that have to run, is a least one that does so.
use Rattle.std.proofs.Common.{◌≡◌, ℕ, ◌<◌, ◌≤◌, Bool, true, false, cond, List, length, get_or, refl, ap, ◌∙◌, subst, arith, inl, inr, ℤ, pos, ◌*ℤ◌, ◌≤ℤ◌}
use Rattle.std.specs.Prelude.{slice_index}
use Rattle.std.proofs.lemmas.Bool.{cases_lt, cond-false, false_from_ne_true, false≢true}
use Rattle.std.proofs.lemmas.Int.{ints}
use Rattle.vs_types.proofs.CallerLemmas.{times_none, times_one}
use Rattle.vs_layer.specs.Circulation.{flow_cost}
use Rattle.vs_types.specs.declared.numbers.LayerNo.{LayerNo}
use Rattle.vs_instance.specs.Problem.{Problem}
use Rattle.vs_instance.specs.Ways.{layer_of}
use Rattle.vs_instance.specs.Plan.{LayerBlock}
use Rattle.vs_instance.proofs.CallerLemmas.{total-range_le}
use Rattle.vs_match.specs.Decomposition.{Decompose}
use Rattle.vs_match.specs.LawfulNets.{IsLawful}
use Rattle.vs_match.specs.LayerGraph.{LayerGraph}
use Rattle.vs_match.proofs.CallerLemmas.{circulation_decomposes}
use Rattle.vs_circ.specs.declared.circ.LayerPrices.{LayerPrices}
use Rattle.vs_circ.specs.Circulations.{CoverExactly, RunExactly}
use Rattle.vs_circ.specs.LayerPrices.{shown_of_trips, trip_pays}
use Rattle.vs_circ.specs.Laws.{CoveredCirculations}
use Rattle.vs_circ.specs.Offers.{MustRun}
use Rattle.vs_circ.specs.PricedFlows.{IsPricedFlow, PaysNoLess, arc_pays}
use Rattle.vs_circ.proofs.low.ArcTotals.{arc_pays_units}
use Rattle.vs_circ.proofs.low.LayerBounds.{trips_bound}
use Rattle.vs_circ.proofs.low.Slackness.{cost_by_trips}
use Rattle.vs_circ.proofs.low.TripArcs.{arc_or_none, at_trip, at_trip-arc, at_trip-none, total-by_trip}
use Rattle.vs_circ.proofs.low.TripPays.{trip_pays_no_less}
use Rattle.vs_circ.proofs.low.UnitBlocks.{are_blocks, arcs_inside, run_once}

module _ (p : Problem) (l : LayerNo) (n : LayerGraph) (must : List Bool) (lawful : IsLawful p l.0 n) where
  -- blocks of a circulation that runs exactly the trips that have to run do so too
  pub run_exactly : (units : List ℕ) → CoverExactly n must units → (blocks : List LayerBlock)
      → Decompose p l n units blocks → RunExactly p l must blocks
  run_exactly units cover blocks parts = record {
    are_blocks = are_blocks p l n lawful units cover.circulation blocks parts (MustRun must) cover.only;
    each = λ i inside has.
        let run = cover.each i has in
        let same = parts.trips i run.0 run.1 in
        let some = run.2 in
        let once = run_once p l n lawful units cover.circulation i run.0 run.1 in
        omega arith;
  }

-- a trip that runs exactly where it has to pays no less by the layer's prices than its arc does
met_must : (must : Bool) (arc trip : ℤ) (u : ℕ) → u ≤ 1 → arc ≤ℤ trip → (must ≡ true → 0 < u) → (0 < u → must ≡ true)
    → (arc *ℤ pos u) ≤ℤ cond must trip (pos 0)
met_must true arc trip u few less runs only =
    let some = runs refl in
    let is : u ≡ 1 = omega arith in
    let once = ap (λ (k : ℕ). arc *ℤ pos k) is ∙ times_one arc in
    omega (arith, ints, once)
met_must false arc trip u few less runs only =
    elim (cases_lt 0 u) [
      | inl some ↦ absurd (false≢true (only some))
      | inr none ↦
          let is : u ≡ 0 = omega arith in
          let never = ap (λ (k : ℕ). arc *ℤ pos k) is ∙ times_none arc in
          omega (arith, ints, never)
    ]

module _ (p : Problem) (l : LayerNo) (n : LayerGraph) (must : List Bool) (prices : List ℤ) (units : List ℕ)
    (given : LayerPrices) (lawful : IsLawful p l.0 n) (cover : CoverExactly n must units)
    (flow : IsPricedFlow n units prices) (pays : PaysNoLess n (length p.trips) prices given) where
  -- what a trip's arc costs beyond what it brings
  abbrev arcs_pay : ℕ → ℤ
  arcs_pay = at_trip n.kinds (arc_pays_units n units prices)

  -- what a trip that has to run pays by the layer's prices
  abbrev due : ℕ → ℤ
  due i = cond (get_or must i false) (trip_pays p l.0 false given i) (pos 0)

  -- trip by trip the flow costs no more than the prices show
  trip_shown : (i : ℕ) → arcs_pay i ≤ℤ due i
  trip_shown i =
      elim (arc_or_none n.kinds i) [
        | inl found ↦
            let k = found.0 in
            let arc = found.1 in
            let pay = at_trip-arc n.kinds (arc_pays_units n units prices) i k arc
            (λ j other. lawful.one_arc i j k other arc) in
            let met = met_must (get_or must i false) (arc_pays n prices k) (trip_pays p l.0 false given i)
            (slice_index units k) (flow.once i k arc) (trip_pays_no_less p l n lawful prices given pays false i k arc)
            (λ has. let run = cover.each i has in
            let same = lawful.one_arc i run.0 k run.1 arc in
            subst (λ (j : ℕ). 0 < slice_index units j) same run.2)
            (λ some. cover.only i (k, arc, some)) in
            omega (arith, ints, pay, met)
        | inr none ↦
            let pay = at_trip-none n.kinds (arc_pays_units n units prices) i none in
            let nothing = cond-false (get_or must i false) (trip_pays p l.0 false given i) (pos 0)
            (false_from_ne_true (get_or must i false) (λ has. let run = cover.each i has in none run.0 run.1)) in
            omega (arith, ints, pay, nothing)
      ]

  -- the prices show no less than the cost
  pub cost_shown : flow_cost n.graph units ≤ℤ shown_of_trips p l.0 false must given
  cost_shown =
      let cost = cost_by_trips p l n lawful units prices flow in
      let trips = total-by_trip n.kinds (arc_pays_units n units prices) (length p.trips)
      (arcs_inside p l n lawful units) in
      let shown = total-range_le arcs_pay due 0 (length p.trips) (λ i from within. trip_shown i) in
      let vehicles = ap (λ (x : ℤ). x *ℤ pos (layer_of p l.0).fleet) pays.vehicle in
      omega (arith, ints, cost, trips, shown, vehicles)

-- the law
pub covered_circulations : CoveredCirculations
covered_circulations p l n must prices flow given cost instance lawful cover priced holding pays is =
    let units = flow.units.items in
    let shown = cost_shown p l n must prices units given lawful cover priced pays in
    let bound = trips_bound p l false given instance holding.holds must in
    let parts = λ (u : List ℕ) (c : CoverExactly n must u).
    circulation_decomposes p instance l n lawful u c.circulation in
    let no_more : (u : List ℕ) → CoverExactly n must u
    → shown_of_trips p l.0 false must given ≤ℤ flow_cost n.graph u =
    λ u c. let here = bound (parts u c).0 (run_exactly p l n must lawful u c (parts u c).0 (parts u c).1) in
    let dear = (parts u c).1.no_dearer in
    omega (arith, ints, here, dear) in
    let own = no_more units cover in (
      cover,
      is,
      λ u c. let other = no_more u c in omega (arith, ints, is, shown, other),
      λ blocks run. let here = bound blocks run in omega (arith, ints, is, shown, here),
      holding,
      omega (arith, ints, is, shown, own),
    )
