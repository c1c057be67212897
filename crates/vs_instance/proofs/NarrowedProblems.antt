-- Parts of problems in which fewer layers may run the trips: they are instances, with the same trips else.
use Rattle.std.proofs.Common.{◌≡◌, ℕ, ◌+◌, ◌<◌, ◌≤◌, List, length, sym, ◌∙◌, subst, arith}
use Rattle.std.specs.FinMap as map
use Rattle.std.specs.List.{All, range_with_len}
use Rattle.std.proofs.lemmas.List.Elements.{All-map}
use Rattle.std.proofs.lemmas.List.FromFn.{get_or-map-range_with_len, get_or-range_with_len, length-map-range_with_len, length-range_with_len}
use Rattle.std.proofs.lemmas.Option.{IfSome_then}
use Rattle.vs_types.specs.declared.layer_set.LayerSet.{LayerSet}
use Rattle.vs_instance.specs.declared.limits.TheConstants.{MAX_TRIPS}
use Rattle.vs_instance.specs.declared.layer.Layer.{Layer}
use Rattle.vs_instance.specs.declared.way.Way.{Way}
use Rattle.vs_instance.specs.Problem.{Problem}
use Rattle.vs_instance.specs.Instance.{IsDeadhead, IsInstance, IsLayer, IsPayable, IsTrip}
use Rattle.vs_instance.specs.Narrowed.{narrowed, narrowed_trip}
use Rattle.vs_instance.specs.Restriction.{IsRestriction}
use Rattle.vs_instance.specs.Ways.{no_trip, trip_of}

module _ (p : Problem) (sets : List LayerSet) where
  -- as many trips
  pub length-narrowed : length (narrowed p sets).trips ≡ length p.trips
  length-narrowed = length-map-range_with_len (narrowed_trip p.trips sets) 0 (length p.trips)

  -- a trip of it is the problem's with its set
  pub trip_of-narrowed : (i : ℕ) → i < length p.trips → trip_of (narrowed p sets) i ≡ narrowed_trip p.trips sets i
  trip_of-narrowed i within =
      get_or-map-range_with_len (narrowed_trip p.trips sets) 0 (length p.trips) i i no_trip within (omega arith)

  module _ (is : IsInstance p) (restricts : IsRestriction p sets) where
    kept-IsLayer : (k : ℕ) (layer : Layer) → IsLayer p layer → IsLayer (narrowed p sets) layer
    kept-IsLayer k layer of = record {
      depot = of.depot;
      fleet = of.fleet;
      fixed = of.fixed;
      per_minute = of.per_minute;
      per_metre = of.per_metre;
      stay = of.stay;
    }

    kept-IsDeadhead : (k s : ℕ) (w : Way) → IsDeadhead p k s w → IsDeadhead (narrowed p sets) k s w
    kept-IsDeadhead k s w of = record {
      from = of.from;
      to = of.to;
      apart = of.apart;
      some_minutes = of.some_minutes;
      minutes = of.minutes;
      metres = of.metres;
    }

    narrowed-IsTrip : (i : ℕ) → i < length p.trips → IsTrip (narrowed p sets) (narrowed_trip p.trips sets i)
    narrowed-IsTrip i within =
        let of : IsTrip p (trip_of p i) = is.trips i no_trip within in
        record {
          from = of.from;
          to = of.to;
          end = of.end;
          lasts = of.lasts;
          metres = of.metres;
          some_layer = restricts.some_layer i within;
          layers = λ l has. of.layers l (restricts.permitted i l within has);
        }

    trips_narrowed : All (λ i. IsTrip (narrowed p sets) (narrowed_trip p.trips sets i))
        (range_with_len 0 (length p.trips))
    trips_narrowed k d inside =
        let within : k < length p.trips = omega (arith, inside, length-range_with_len 0 (length p.trips)) in
        let same : 0 + k ≡ k = omega arith in
        subst (λ i. IsTrip (narrowed p sets) (narrowed_trip p.trips sets i))
        (sym (get_or-range_with_len 0 (length p.trips) k d within ∙ same)) (narrowed-IsTrip k within)

    -- it is an instance too
    pub narrowed-IsInstance : IsInstance (narrowed p sets)
    narrowed-IsInstance = record {
      few_stops = is.few_stops;
      few_layers = is.few_layers;
      few_trips = subst (λ (n : ℕ). n ≤ MAX_TRIPS) (sym length-narrowed) is.few_trips;
      layers = λ k d inside. kept-IsLayer k _ (is.layers k d inside);
      payable = subst (λ (n : ℕ). All (IsPayable n) p.layers) (sym length-narrowed) is.payable;
      deadheads = λ k s. IfSome_then (map.get p.deadheads (k, s)) (is.deadheads k s) (kept-IsDeadhead k s);
      trips = All-map (IsTrip (narrowed p sets)) (narrowed_trip p.trips sets) (range_with_len 0 (length p.trips))
          trips_narrowed;
      closed = is.closed;
    }
