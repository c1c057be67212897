-- Where units are stuck, no circulation runs exactly the trips that have to run.
use Rattle.std.proofs.Common.{◌≡◌, ℕ, zero, suc, ◌<◌, Bool, true, false, cond, List, [], ◌∷◌, length, map, get_or, refl, sym, ap, ◌∙◌, subst, arith, inl, inr, ℤ, pos, ◌-ℤ◌, ◌*ℤ◌, ◌≤ℤ◌, ◌<ℤ◌}
use Rattle.std.proofs.lemmas.Bool.{cond-false, false_from_ne_true}
use Rattle.std.proofs.lemmas.Int.{ints}
use Rattle.std.proofs.lemmas.List.{length-map}
use Rattle.vs_types.proofs.CallerLemmas.{times_none, times_one}
use Rattle.vs_layer.specs.Graph.{arc_of}
use Rattle.vs_types.specs.declared.numbers.LayerNo.{LayerNo}
use Rattle.vs_instance.specs.Problem.{Problem}
use Rattle.vs_instance.specs.Ways.{layer_of}
use Rattle.vs_instance.proofs.CallerLemmas.{total-range_le}
use Rattle.vs_match.specs.declared.arc_kind.ArcKind.{ArcKind}
use Rattle.vs_match.specs.declared.arc_kind.ArcKind.TheVariants.{Trip, Waiting, Deadhead, PullOut, PullIn, RestIn, RestWait, RestOut, Return}
use Rattle.vs_match.specs.LawfulNets.{IsLawful}
use Rattle.vs_match.specs.LayerGraph.{LayerGraph, kind_at, kind_of}
use Rattle.vs_path.specs.Residual.{price_at}
use Rattle.vs_ship.specs.Balance.{gained}
use Rattle.vs_match.proofs.CallerLemmas.{circulation_decomposes}
use Rattle.vs_circ.specs.declared.circ.LayerPrices.{LayerPrices}
use Rattle.vs_circ.specs.LayerPrices.{shown_of_trips, trip_pays}
use Rattle.vs_circ.specs.Laws.{StuckTrips}
use Rattle.vs_circ.specs.Offers.{AreMust}
use Rattle.vs_circ.specs.PricedFlows.{IsStuckAt, PaysNoLess, must_on, must_units, vehicle_price}
use Rattle.vs_circ.proofs.low.ArcTotals.{lost_by_arcs, lost_on_units}
use Rattle.vs_circ.proofs.low.Covered.{run_exactly}
use Rattle.vs_circ.proofs.low.LayerBounds.{trips_bound}
use Rattle.vs_circ.proofs.low.Reindexing.{over_range, total-same}
use Rattle.vs_circ.proofs.low.LawfulArcs.{return_arc}
use Rattle.vs_circ.proofs.low.TripArcs.{arc_or_none, at_trip, at_trip-arc, at_trip-none, on_trip, on_trips, total-by_trip}
use Rattle.vs_circ.proofs.low.TripPays.{trip_pays_no_less}
use Rattle.vs_circ.proofs.low.UnitBlocks.{arcs_inside}

-- the units of the trips that have to run, by the kinds of the arcs
pub must_unit : (must : List Bool) (kinds : List ArcKind) (k : ℕ)
    → get_or (map (must_on must) kinds) k 0 ≡ must_on must (kind_at kinds k)
must_unit must [] k = refl
must_unit must (kind ∷ kinds) zero = refl
must_unit must (kind ∷ kinds) (suc k) = must_unit must kinds k

-- they are on the arcs of trips alone
must_on_trips : (must : List Bool) (kind : ArcKind) (x : ℤ)
    → x *ℤ pos (must_on must kind) ≡ on_trip kind (x *ℤ pos (must_on must kind))
must_on_trips must (Trip i) x = refl
must_on_trips must Waiting x = times_none x
must_on_trips must Deadhead x = times_none x
must_on_trips must PullOut x = times_none x
must_on_trips must PullIn x = times_none x
must_on_trips must RestIn x = times_none x
must_on_trips must RestWait x = times_none x
must_on_trips must RestOut x = times_none x
must_on_trips must Return x = times_none x

-- a unit on a trip's arc that has to run loses no more by the nodes' prices than the trip pays
lost_if_due : (must : Bool) (lost pays : ℤ) → lost ≤ℤ pays → (lost *ℤ pos (cond must 1 0)) ≤ℤ cond must pays (pos 0)
lost_if_due true lost pays less = let once = times_one lost in omega (arith, ints, once)
lost_if_due false lost pays less = let never = times_none lost in omega (arith, ints, never)

module _ (p : Problem) (l : LayerNo) (n : LayerGraph) (must : List Bool) (prices : List ℤ) (given : LayerPrices)
    (lawful : IsLawful p l.0 n) (are : AreMust p l.0 must) (stuck : IsStuckAt n must prices)
    (pays : PaysNoLess n (length p.trips) prices given) where
  -- what the units that have to run lose by the nodes' prices
  abbrev lost : ℕ → ℤ
  lost = lost_on_units n (must_units n must) prices

  -- what a trip that has to run pays by the layer's prices as a ray
  abbrev due : ℕ → ℤ
  due i = cond (get_or must i false) (trip_pays p l.0 true given i) (pos 0)

  -- trip by trip the units lose no more than the prices show
  trip_shown : (i : ℕ) → i < length p.trips → at_trip n.kinds lost i ≤ℤ due i
  trip_shown i inside =
      elim (arc_or_none n.kinds i) [
        | inl found ↦
            let k = found.0 in
            let arc = found.1 in
            let apart = price_at prices (arc_of n.graph k).from -ℤ price_at prices (arc_of n.graph k).to in
            let here = at_trip-arc n.kinds lost i k arc (λ j other. lawful.one_arc i j k other arc)
            ∙ ap (λ (u : ℕ). apart *ℤ pos u)
            (must_unit must n.kinds k ∙ ap (λ (kind : ArcKind). must_on must kind) arc.1) in
            let less = trip_pays_no_less p l n lawful prices given pays true i k arc in
            let met = lost_if_due (get_or must i false) apart (trip_pays p l.0 true given i) (omega (arith, ints)) in
            omega (arith, ints, here, met)
        | inr none ↦
            let here = at_trip-none n.kinds lost i none in
            let nothing = cond-false (get_or must i false) (trip_pays p l.0 true given i) (pos 0)
            (false_from_ne_true (get_or must i false)
            (λ has. let arc = lawful.each_trip i (inside, are.permitted i has) in none arc.0 arc.1)) in
            omega (arith, ints, here, nothing)
      ]

  -- what the units lose, trip by trip
  lost_by_trips : pos 0 -ℤ gained (price_at prices) n.graph.arcs (must_units n must)
      ≡ over_range (at_trip n.kinds lost) 0 (length p.trips)
  lost_by_trips =
      lost_by_arcs n (must_units n must) (length-map n.kinds (must_on must) ∙ lawful.labelled.each_arc) prices
      ∙ ap (over_range lost 0) (sym lawful.labelled.each_arc)
      ∙ total-same lost (on_trips n.kinds lost) 0 (length n.kinds) (λ k from within. on_trips_alone k)
      ∙ total-by_trip n.kinds lost (length p.trips) (arcs_inside p l n lawful (must_units n must))
    where
      on_trips_alone : (k : ℕ) → lost k ≡ on_trips n.kinds lost k
      on_trips_alone k =
          let apart = price_at prices (arc_of n.graph k).from -ℤ price_at prices (arc_of n.graph k).to in
          subst (λ (u : ℕ). apart *ℤ pos u ≡ on_trip (kind_of n k) (apart *ℤ pos u)) (sym (must_unit must n.kinds k))
          (must_on_trips must (kind_of n k) apart)

  -- the prices show more than nothing
  pub more_shown : pos 0 <ℤ shown_of_trips p l.0 true must given
  more_shown =
      let more = stuck.more in
      let lost_is = lost_by_trips in
      let shown = total-range_le (at_trip n.kinds lost) due 0 (length p.trips)
      (λ i from within. trip_shown i (omega arith)) in
      let vehicles = ap (λ (x : ℤ). x *ℤ pos (layer_of p l.0).fleet) pays.vehicle in
      let room = ap (λ (r : ℕ). vehicle_price n prices *ℤ pos r) (return_arc p l n lawful).room in
      omega (arith, ints, more, lost_is, shown, vehicles, room)

-- the law
pub stuck_trips : StuckTrips
stuck_trips p l n must prices given instance lawful are stuck holding pays =
    let more = more_shown p l n must prices given lawful are stuck pays in
    let bound = trips_bound p l true given instance holding.holds must in (
      λ units cover. let parts = circulation_decomposes p instance l n lawful units cover.circulation in
          let none = bound parts.0 (run_exactly p l n must lawful units cover parts.0 parts.1) in
          omega (arith, ints, more, none),
      λ blocks run. let none = bound blocks run in omega (arith, ints, more, none),
      holding,
      more,
    )
