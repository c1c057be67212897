-- The counting problem of an instance is one.
use Rattle.std.proofs.Common.{◌≡◌, ℕ, zero, suc, ◌<◌, [], length, get_or, refl, arith, lit<}
use Rattle.std.specs.FinMap as map
use Rattle.std.proofs.lemmas.Nat.Bits.{bit_at_above}
use Rattle.std.proofs.lemmas.List.Elements.{All-cons, All-map, All-nil}
use Rattle.std.proofs.lemmas.Option.{IfSome_then}
use Rattle.std.specs.Int.{bit_at}
use Rattle.vs_types.proofs.CallerLemmas.{members-some}
use Rattle.vs_instance.specs.declared.layer.Layer.{Layer}
use Rattle.vs_instance.specs.declared.trip.Trip.{Trip}
use Rattle.vs_instance.specs.declared.way.Way.{Way}
use Rattle.vs_instance.specs.Problem.{Problem}
use Rattle.vs_instance.specs.Instance.{IsDeadhead, IsInstance, IsLayer, IsPayable, IsTrip}
use Rattle.vs_instance.specs.Ways.{layer_of, trip_of}
use Rattle.vs_instance.proofs.CallerLemmas.{layer_of-IsLayer, trip_of-IsTrip}
use Rattle.vs_peakcheck.specs.Counting.{counted_fleet, counted_layer, counted_trip, counting, permitted_trips}
use Rattle.vs_peakcheck.proofs.problem.PermittedTrips.{all_within, few_permitted}
use Rattle.vs_peakcheck.proofs.problem.CountedTrips.{count_is}

-- the set of the only layer has no other
only_bit : (l : ℕ) → bit_at 1 l ≡ 1 → l < 1
only_bit zero has = omega arith
only_bit (suc l) has =
    let none = bit_at_above 1 1 (suc l) (lit< tt) (omega arith) in
    absurd (omega (arith, none, has))

module _ (p : Problem) (l : ℕ) where
  abbrev q : Problem
  q = counting p l

  layer_there : IsInstance p → (layer : Layer) → IsLayer p layer → IsLayer q (counted_layer (counted_fleet p) layer)
  layer_there instance layer is = record {
    depot = is.depot;
    fleet = omega (arith, instance.few_trips);
    fixed = omega arith;
    per_minute = omega arith;
    per_metre = omega arith;
    stay = tt;
  }

  deadhead_there : (k s : ℕ) (w : Way) → IsDeadhead p k s w → IsDeadhead q k s w
  deadhead_there k s w is = record {
    from = is.from;
    to = is.to;
    apart = is.apart;
    some_minutes = is.some_minutes;
    minutes = is.minutes;
    metres = is.metres;
  }

  trip_there : (trip : Trip) → IsTrip p trip → IsTrip q (counted_trip trip)
  trip_there trip is = record {
    from = is.from;
    to = is.to;
    end = is.end;
    lasts = is.lasts;
    metres = is.metres;
    some_layer = members-some (record { 0 = 1 }) 0 (omega arith) refl;
    layers = λ m has. only_bit m has;
  }

  -- the same deadheads, a layer and trips within the limits
  pub counting-IsInstance : IsInstance p → l < length p.layers → IsInstance q
  counting-IsInstance is layer = record {
    few_stops = is.few_stops;
    few_layers = omega arith;
    few_trips = omega (arith, is.few_trips, few_permitted p l, count_is (counted_fleet p) p l);
    layers = All-cons (IsLayer q) (counted_layer (counted_fleet p) (layer_of p l)) []
        (layer_there is (layer_of p l) (layer_of-IsLayer p is l layer)) (All-nil (IsLayer q));
    payable = All-cons (IsPayable (length q.trips)) (counted_layer (counted_fleet p) (layer_of p l)) []
        (omega (arith, is.few_trips, few_permitted p l, count_is (counted_fleet p) p l))
        (All-nil (IsPayable (length q.trips)));
    deadheads = λ k s. IfSome_then (map.get p.deadheads (k, s)) (is.deadheads k s) (deadhead_there k s);
    trips = All-map (IsTrip q) (λ (i : ℕ). counted_trip (trip_of p i)) (permitted_trips p l)
        (λ k d within.
        let i = get_or (permitted_trips p l) k d in
        trip_there (trip_of p i) (trip_of-IsTrip p is i (all_within p l k d within)));
    closed = is.closed;
  }
