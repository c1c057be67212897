-- What the counting problem is made of makes an instance.
use Rattle.std.proofs.Common.{◌≡◌, ℕ, ◌<◌, ◌≤◌, [], ◌∷◌, length, map, sym, subst, arith}
use Rattle.std.proofs.lemmas.Nat.{mul-le}
use Rattle.std.proofs.lemmas.List.Elements.{All-weaker}
use Rattle.vs_instance.specs.declared.layer.Layer.{Layer}
use Rattle.vs_instance.specs.declared.limits.TheConstants.{MAX_STOPS, MAX_TRIPS, TWO_DAYS}
use Rattle.vs_instance.specs.declared.parts.Deadhead.{Deadhead}
use Rattle.vs_instance.specs.declared.parts.Parts.{Parts}
use Rattle.vs_instance.specs.declared.trip.Trip.{Trip}
use Rattle.vs_instance.specs.Instance.{IsInstance, IsLayer, IsTrip}
use Rattle.vs_instance.specs.Misfits.{AreParts, problem_of}
use Rattle.vs_instance.specs.Problem.{Problem}
use Rattle.vs_instance.specs.Ways.{layer_of, trip_of}
use Rattle.vs_peakcheck.specs.Counting.{counted_fleet, counted_layer, counted_trip, counting, permitted_trips}
use Rattle.vs_peakcheck.specs.Listed.{AreAllDeadheads, IsGiven}
use Rattle.vs_peakcheck.specs.Parts.{CountingParts}
use Rattle.vs_peakcheck.proofs.problem.CountedInstance.{counting-IsInstance}
use Rattle.vs_peakcheck.proofs.problem.ListedDeadheads.{same_deadheads}

module _ (p : Problem) (l : ℕ) (instance : IsInstance p) (layer : l < length p.layers) (parts : Parts)
    (stops : parts.stops ≡ p.stops) (listed : AreAllDeadheads p parts.deadheads.items)
    (layers : parts.layers.items ≡ counted_layer (counted_fleet p) (layer_of p l) ∷ [])
    (trips : parts.trips.items ≡ map (λ k. counted_trip (trip_of p k)) (permitted_trips p l))
    (most : parts.most ≡ MAX_TRIPS) where
  same : problem_of parts ≡ counting p l
  same =
      let deadheads = same_deadheads p parts.deadheads.items instance listed in
      λ i. record { stops = stops i; deadheads = deadheads i; layers = layers i; trips = trips i }

  -- they are what the counting problem says
  is_instance : IsInstance (problem_of parts)
  is_instance = subst IsInstance (sym same) (counting-IsInstance p l instance layer)

  are_parts : AreParts parts
  are_parts =
      let few_stops : parts.stops ≤ MAX_STOPS = omega (arith, stops, instance.few_stops) in
      record {
        few_stops = few_stops;
        few_layers = is_instance.few_layers;
        few_trips = omega (arith, is_instance.few_trips, most);
        most = omega (arith, most);
        few_deadheads =
            let square = mul-le p.stops p.stops MAX_STOPS MAX_STOPS instance.few_stops instance.few_stops in
            omega (arith, listed.few, square);
        layers = All-weaker (IsLayer (problem_of parts)) (λ (x : Layer). x.depot.0 < parts.stops)
            (λ x is. is.depot) parts.layers.items is_instance.layers;
        deadheads = All-weaker (IsGiven p)
            (λ (d : Deadhead). (d.from.0 < parts.stops) × (d.to.0 < parts.stops))
            (λ d is. (omega (arith, is.from, stops), omega (arith, is.to, stops))) parts.deadheads.items listed.given;
        trip_stops = All-weaker (IsTrip (problem_of parts))
            (λ (t : Trip). (t.from.0 < parts.stops) × (t.to.0 < parts.stops)) (λ t is. (is.from, is.to))
            parts.trips.items is_instance.trips;
        trip_times = All-weaker (IsTrip (problem_of parts))
            (λ (t : Trip). (t.start < TWO_DAYS) × (t.end < TWO_DAYS))
            (λ t is. (omega (arith, is.lasts, is.end), is.end)) parts.trips.items is_instance.trips;
        trip_layers = λ k d within.
            let is = is_instance.trips k d within in
            (is.some_layer, is.layers);
      }

  -- and make its instance
  pub counting_parts : CountingParts p l parts
  counting_parts = record {
    are_parts = are_parts;
    make = record {
      once = listed.once;
      fleets = All-weaker (IsLayer (problem_of parts)) (λ (x : Layer). x.fleet ≤ parts.most)
          (λ x is. omega (arith, is.fleet, most)) parts.layers.items is_instance.layers;
      instance = is_instance;
    };
    problem = same;
  }
