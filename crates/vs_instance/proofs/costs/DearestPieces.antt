-- No piece of cost is dearer than the dearest of its layer, so as many of them as there are trips cost no more than the
-- limit.
use Rattle.std.proofs.Common.{◌≡◌, ℕ, ◌+◌, ◌-◌, ◌*◌, ◌<◌, ◌≤◌, Bool, true, false, cond, leb, max, length, refl, sym, ap, ◌∙◌, subst, arith, Option, Some, None}
use Rattle.std.specs.Prelude.{if◌then◌else◌, nat_abs, nat_le, option_and_then, option_map}
use Rattle.std.proofs.Math.Nat.{div-le_of_le-mul, le-div_iff_mul-le, le-max_right, max-le}
use Rattle.std.proofs.lemmas.Nat.{mul-le}
use Rattle.std.proofs.lemmas.Option.{none-some, same_Some}
use Rattle.vs_instance.specs.declared.layer.Layer.{Layer}
use Rattle.vs_instance.specs.declared.limits.TheConstants.{MAX_DEAREST_SUM, MAX_METRES, MAX_MULTIPLIER, MAX_MULTIPLIER_SUM, MAX_PER_METRE, MAX_PER_MINUTE, MAX_TRIPS, TWO_DAYS, USUAL_TRIPS}
use Rattle.vs_instance.specs.Dearest.{dearest, most_multiplier}
use Rattle.vs_instance.specs.Problem.{Problem}
use Rattle.vs_instance.specs.Instance.{IsInstance, IsLayer, IsPayable}
use Rattle.vs_instance.specs.declared.way.Way.{Way}
use Rattle.vs_instance.specs.Ways.{layer_of, no_layer, trip_of, way_in, way_out}
use Rattle.vs_instance.specs.Pieces.{in_piece, out_piece, rated, trip_piece}
use Rattle.vs_instance.proofs.Known.{trip_of-IsTrip, way-within}

-- the dearest piece that the limits of the rates allow
pub dearest-below : (p : Problem) (layer : Layer) → IsLayer p layer → dearest layer ≤ 13880000000
dearest-below p layer is =
    let time : layer.per_minute * TWO_DAYS ≤ MAX_PER_MINUTE * TWO_DAYS =
    mul-le layer.per_minute TWO_DAYS MAX_PER_MINUTE TWO_DAYS is.per_minute (omega arith) in
    let driven : layer.per_metre * MAX_METRES ≤ MAX_PER_METRE * MAX_METRES =
    mul-le layer.per_metre MAX_METRES MAX_PER_METRE MAX_METRES is.per_metre (omega arith) in
    omega (arith, is.fixed, time, driven)

-- a multiplier is within the limit of 2,000 trips, and a fifth of it is one whatever the number of trips
pub multiplier-most : (trips : ℕ) → most_multiplier trips ≤ nat_abs MAX_MULTIPLIER
multiplier-most trips =
    let more = mul-le USUAL_TRIPS (nat_abs MAX_MULTIPLIER) (max trips USUAL_TRIPS) (nat_abs MAX_MULTIPLIER)
    (le-max_right trips USUAL_TRIPS) (omega arith) in
    div-le_of_le-mul (max trips USUAL_TRIPS) {m = nat_abs MAX_MULTIPLIER_SUM} {n = nat_abs MAX_MULTIPLIER}
    (omega (arith, more))

pub multiplier-least : (trips : ℕ) → trips ≤ MAX_TRIPS → 20000000000000 ≤ most_multiplier trips
multiplier-least trips few =
    let most = max-le {a = trips} {b = USUAL_TRIPS} {k = MAX_TRIPS} few (omega arith) in
    let product = mul-le 20000000000000 (max trips USUAL_TRIPS) 20000000000000 MAX_TRIPS (omega arith) most in
    let some = le-max_right trips USUAL_TRIPS in
    (le-div_iff_mul-le {k = max trips USUAL_TRIPS} {x = 20000000000000} {y = nat_abs MAX_MULTIPLIER_SUM}
    (omega (arith, some))).1 (omega (arith, product))

-- up to 2,000 trips every layer is payable
pub usual_payable : (p : Problem) (layer : Layer) (trips : ℕ) → IsLayer p layer → trips ≤ USUAL_TRIPS
    → IsPayable trips layer
usual_payable p layer trips is few =
    let all : trips * dearest layer ≤ USUAL_TRIPS * 13880000000 =
    mul-le trips (dearest layer) USUAL_TRIPS 13880000000 few (dearest-below p layer is) in
    omega (arith, all)

-- what pull-outs and pull-ins cost, by the ways that there are
abbrev out_of : Problem → ℕ → ℕ → Option Way → Option ℕ
out_of p l i found = option_and_then
    (λ w. if nat_le w.minutes (trip_of p i).start then Some
    ((layer_of p l).fixed + rated p l w.minutes w.metres) else None)
    found

abbrev in_of : Problem → ℕ → Option Way → Option ℕ
in_of p l found = option_map (λ w. rated p l w.minutes w.metres) found

module _ (p : Problem) (inst : IsInstance p) where
  -- a vehicle for the day, and so many minutes and metres, cost no more than the dearest piece
  pub fixed-rated-≤ : (l minutes metres : ℕ) → l < length p.layers → minutes ≤ TWO_DAYS → metres ≤ MAX_METRES
      → (layer_of p l).fixed + rated p l minutes metres ≤ dearest (layer_of p l)
  fixed-rated-≤ l minutes metres within few short =
      let layer = layer_of p l in
      let time : layer.per_minute * minutes ≤ layer.per_minute * TWO_DAYS =
      mul-le layer.per_minute minutes layer.per_minute TWO_DAYS (omega arith) few in
      let driven : layer.per_metre * metres ≤ layer.per_metre * MAX_METRES =
      mul-le layer.per_metre metres layer.per_metre MAX_METRES (omega arith) short in
      omega (arith, time, driven)

  -- a cost that is no more than the dearest piece of a layer, as often as there are trips
  pub payable-≤ : (l cost : ℕ) → l < length p.layers → cost ≤ dearest (layer_of p l)
      → length p.trips * cost ≤ MAX_DEAREST_SUM
  payable-≤ l cost within few =
      let all : length p.trips * cost ≤ length p.trips * dearest (layer_of p l) =
      mul-le (length p.trips) cost (length p.trips) (dearest (layer_of p l)) (omega arith) few in
      let most : length p.trips * dearest (layer_of p l) ≤ MAX_DEAREST_SUM = inst.payable l no_layer within in
      omega (arith, all, most)

  -- so for minutes and metres, and for a vehicle with them
  pub rated-payable : (l minutes metres : ℕ) → l < length p.layers → minutes ≤ TWO_DAYS → metres ≤ MAX_METRES
      → length p.trips * rated p l minutes metres ≤ MAX_DEAREST_SUM
  rated-payable l minutes metres within few short =
      let limit = fixed-rated-≤ l minutes metres within few short in
      payable-≤ l (rated p l minutes metres) within (omega (arith, limit))

  pub fixed-rated-payable : (l minutes metres : ℕ) → l < length p.layers → minutes ≤ TWO_DAYS → metres ≤ MAX_METRES
      → length p.trips * ((layer_of p l).fixed + rated p l minutes metres) ≤ MAX_DEAREST_SUM
  fixed-rated-payable l minutes metres within few short =
      payable-≤ l ((layer_of p l).fixed + rated p l minutes metres) within
      (fixed-rated-≤ l minutes metres within few short)

  -- as many pull-outs to a trip as there are trips, as many of the trip itself, and as many pull-ins from it
  pub out_payable : (l i cost : ℕ) → l < length p.layers → out_piece p l i ≡ Some cost
      → length p.trips * cost ≤ MAX_DEAREST_SUM
  out_payable l i cost within found = by_way (way_out p l i) refl
    where
      fits : (w : Way) → way_out p l i ≡ Some w
          → length p.trips * ((layer_of p l).fixed + rated p l w.minutes w.metres) ≤ MAX_DEAREST_SUM
      fits w is =
          let by = way-within p inst (layer_of p l).depot.0 (trip_of p i).from.0 w is in
          fixed-rated-payable l w.minutes w.metres within (omega (arith, by.minutes)) by.metres

      by_time : (w : Way) → way_out p l i ≡ Some w → (b : Bool)
          → cond b (Some ((layer_of p l).fixed + rated p l w.minutes w.metres)) None ≡ Some cost
          → length p.trips * cost ≤ MAX_DEAREST_SUM
      by_time w is true e =
          let same = same_Some ((layer_of p l).fixed + rated p l w.minutes w.metres) cost e in
          subst (λ (n : ℕ). length p.trips * n ≤ MAX_DEAREST_SUM) same (fits w is)
      by_time w is false e = absurd (none-some cost e)

      by_way : (o : Option Way) → way_out p l i ≡ o → length p.trips * cost ≤ MAX_DEAREST_SUM
      by_way None is = absurd (none-some cost (sym (ap (out_of p l i) is) ∙ found))
      by_way (Some w) is =
          by_time w is (leb w.minutes (trip_of p i).start) (sym (ap (out_of p l i) is) ∙ found)

  pub trip_payable : (l i : ℕ) → l < length p.layers → i < length p.trips
      → length p.trips * trip_piece p l i ≤ MAX_DEAREST_SUM
  trip_payable l i within inside =
      let trip = trip_of-IsTrip p inst i inside in
      rated-payable l ((trip_of p i).end - (trip_of p i).start) (trip_of p i).metres within (omega (arith, trip.end))
      trip.metres

  pub in_payable : (l i cost : ℕ) → l < length p.layers → in_piece p l i ≡ Some cost
      → length p.trips * cost ≤ MAX_DEAREST_SUM
  in_payable l i cost within found = by_way (way_in p l i) refl
    where
      by_way : (o : Option Way) → way_in p l i ≡ o → length p.trips * cost ≤ MAX_DEAREST_SUM
      by_way None is = absurd (none-some cost (sym (ap (in_of p l) is) ∙ found))
      by_way (Some w) is =
          let by = way-within p inst (trip_of p i).to.0 (layer_of p l).depot.0 w is in
          let same = same_Some (rated p l w.minutes w.metres) cost (sym (ap (in_of p l) is) ∙ found) in
          subst (λ (n : ℕ). length p.trips * n ≤ MAX_DEAREST_SUM) same
          (rated-payable l w.minutes w.metres within (omega (arith, by.minutes)) by.metres)
