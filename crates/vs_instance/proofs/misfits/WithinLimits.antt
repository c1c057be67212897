-- Layers and trips with no misfit are within the limits, and the other way round.
use Rattle.std.proofs.Common.{◌≡◌, ◌≢◌, ℕ, zero, suc, ◌*◌, ◌<◌, ◌≤◌, ◌==◌, not, ltb, false, [], length, refl, ap, arith, Option, Some}
use Rattle.std.specs.Prelude.{IfSome}
use Rattle.std.specs.declared.option.Option.TheVariants as option
use Rattle.std.proofs.lemmas.Bool.{ltb-false, ltb-true, le-ltb, lt-ltb, ne_eqb, not-false, or_from, or_parts, true≢false}
use Rattle.vs_types.specs.LayerSet.{Has, members}
use Rattle.vs_instance.specs.declared.layer.Layer.{Layer}
use Rattle.vs_instance.specs.declared.trip.Trip.{Trip}
use Rattle.vs_instance.specs.declared.misfit.Misfit.{Misfit}
use Rattle.vs_instance.specs.declared.limits.TheConstants.{MAX_DEAREST_SUM, MAX_FIXED, MAX_FLEET, MAX_PER_MINUTE, MAX_PER_METRE, MAX_STAY, MAX_METRES, TWO_DAYS}
use Rattle.vs_instance.specs.Dearest.{dearest}
use Rattle.vs_instance.specs.Problem.{Problem}
use Rattle.vs_instance.specs.Instance.{IsLayer, IsPayable, IsStay, IsTrip}
use Rattle.vs_instance.specs.Misfits.{is_no_stay, layer_misfits, trip_misfits}
use Rattle.vs_instance.specs.Firsts.{when}
use Rattle.vs_instance.proofs.misfits.Empty.{None, both_none, none-append, false_from_none, none_from_false}

-- a number that isn't misfit for being more than its limit
within : (limit n : ℕ) (m : Misfit) → None (when (ltb limit n) m) → n ≤ limit
within limit n m none = ltb-false limit n (false_from_none (ltb limit n) m none)

fits : (limit n : ℕ) (m : Misfit) → n ≤ limit → None (when (ltb limit n) m)
fits limit n m few = none_from_false (ltb limit n) m (le-ltb limit n few)

-- a least rest that isn't misfit is within its range, and the other way round
stay_within : (stay : Option ℕ) → is_no_stay stay ≡ false → IfSome stay IsStay
stay_within option.None none = tt
stay_within (Some minutes) none =
    let parts = or_parts (minutes == 0) (ltb MAX_STAY minutes) none in
    (some_minutes minutes parts.0, ltb-false MAX_STAY minutes parts.1)
  where
    some_minutes : (n : ℕ) → (n == 0) ≡ false → 1 ≤ n
    some_minutes zero is = absurd (true≢false is)
    some_minutes (suc n) is = omega arith

stay_fits : (stay : Option ℕ) → IfSome stay IsStay → is_no_stay stay ≡ false
stay_fits option.None is = refl
stay_fits (Some minutes) is = or_from (minutes == 0) (ltb MAX_STAY minutes)
    (ne_eqb minutes 0 (λ none. omega (arith, none, is.0))) (le-ltb MAX_STAY minutes is.1)

-- the fleet of a layer with no misfit is no greater than it may be, and so many of its pieces don't cost too much
pub fleet_fits : (most trips l : ℕ) (layer : Layer) → None (layer_misfits most trips l layer) → layer.fleet ≤ most
fleet_fits most trips l layer none =
    let stay = both_none _ _ (both_none _ _ none).0 in
    let third = both_none _ _ (both_none _ _ stay.0).0 in
    within most layer.fleet _ (both_none _ _ third.0).0

pub payable_fits : (most trips l : ℕ) (layer : Layer) → None (layer_misfits most trips l layer) → IsPayable trips layer
payable_fits most trips l layer none = within MAX_DEAREST_SUM (trips * dearest layer) _ (both_none _ _ none).1

-- a layer with no misfit is within the limits
pub layer_fits : (p : Problem) (most trips l : ℕ) (layer : Layer) → most ≤ MAX_FLEET → layer.depot.0 < p.stops
    → None (layer_misfits most trips l layer) → IsLayer p layer
layer_fits p most trips l layer few depot none =
    let fleet : layer.fleet ≤ MAX_FLEET = omega (arith, few, fleet_fits most trips l layer none) in
    let stay = both_none _ _ (both_none _ _ none).0 in
    let last = both_none _ _ stay.0 in
    let third = both_none _ _ last.0 in
    let second = both_none _ _ third.0 in
    record {
      depot = depot;
      fleet = fleet;
      fixed = within MAX_FIXED layer.fixed _ second.1;
      per_minute = within MAX_PER_MINUTE layer.per_minute _ third.1;
      per_metre = within MAX_PER_METRE layer.per_metre _ last.1;
      stay = stay_within layer.stay (false_from_none (is_no_stay layer.stay) _ stay.1);
    }

pub none_of_layer : (p : Problem) (most trips l : ℕ) (layer : Layer) → IsLayer p layer → layer.fleet ≤ most
    → IsPayable trips layer → None (layer_misfits most trips l layer)
none_of_layer p most trips l layer is few payable =
    none-append _ _
    (none-append _ _
    (none-append _ _
    (none-append _ _
    (none-append _ _ (fits most layer.fleet _ few) (fits MAX_FIXED layer.fixed _ is.fixed))
    (fits MAX_PER_MINUTE layer.per_minute _ is.per_minute)) (fits MAX_PER_METRE layer.per_metre _ is.per_metre))
    (none_from_false (is_no_stay layer.stay) _ (stay_fits layer.stay is.stay)))
    (fits MAX_DEAREST_SUM (trips * dearest layer) _ payable)

pub trip_fits : (p : Problem) (i : ℕ) (trip : Trip) → trip.from.0 < p.stops → trip.to.0 < p.stops → trip.end < TWO_DAYS
    → members trip.layers ≢ [] → ((l : ℕ) → Has trip.layers l → l < length p.layers) → None (trip_misfits i trip)
    → IsTrip p trip
trip_fits p i trip from to end some_layer layers none =
    let parts = both_none _ _ none in
    record {
      from = from;
      to = to;
      end = end;
      lasts = ltb-true trip.start trip.end (not-false (ltb trip.start trip.end) (false_from_none _ _ parts.1));
      metres = within MAX_METRES trip.metres _ parts.0;
      some_layer = some_layer;
      layers = layers;
    }

pub none_of_trip : (p : Problem) (i : ℕ) (trip : Trip) → IsTrip p trip → None (trip_misfits i trip)
none_of_trip p i trip is =
    none-append _ _ (fits MAX_METRES trip.metres _ is.metres)
    (none_from_false _ _ (ap not (lt-ltb trip.start trip.end is.lasts)))
