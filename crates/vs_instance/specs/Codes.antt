-- How problems are stored, so that a proof can tell them apart.
use Rattle.std.specs.Prelude.{ℕ, List, Option, refl}
use Rattle.std.specs.FinMap as map
use Rattle.std.specs.Coded.{Coded, code_by, coded×, coded_ℕ, coded_list, coded_option}
use Rattle.vs_instance.specs.declared.layer.Layer.{Layer}
use Rattle.vs_instance.specs.declared.trip.Trip.{Trip}
use Rattle.vs_instance.specs.declared.way.Way.{Way}
use Rattle.vs_instance.specs.Problem.{Problem, pair_cmp}
use Rattle.vs_instance.specs.deadheads.WayMap.{WayMap}

abbrev pub coded_way : Coded Way
coded_way =
    code_by (ℕ × ℕ) (coded× coded_ℕ coded_ℕ) (λ w. (w.minutes, w.metres))
    (λ c. record { minutes = c.0; metres = c.1 }) (λ _. refl)

abbrev pub coded_deadheads : Coded (map.FinMap pair_cmp Way)
coded_deadheads = map.code (coded× coded_ℕ coded_ℕ) coded_way

abbrev pub coded_way_map : Coded WayMap
coded_way_map =
    code_by (ℕ × map.FinMap pair_cmp Way) (coded× coded_ℕ coded_deadheads) (λ w. (w.stops, w.given))
    (λ c. record { stops = c.0; given = c.1 }) (λ _. refl)

-- a layer as the number of its depot, its fleet, its three rates and its least rest
abbrev pub coded_layer : Coded Layer
coded_layer =
    code_by (ℕ × (ℕ × (ℕ × (ℕ × (ℕ × Option ℕ)))))
    (coded× coded_ℕ (coded× coded_ℕ (coded× coded_ℕ (coded× coded_ℕ (coded× coded_ℕ (coded_option coded_ℕ))))))
    (λ l. (l.depot.0, (l.fleet, (l.fixed, (l.per_minute, (l.per_metre, l.stay))))))
    (λ c. record {
      depot = record { 0 = c.0 };
      fleet = c.1.0;
      fixed = c.1.1.0;
      per_minute = c.1.1.1.0;
      per_metre = c.1.1.1.1.0;
      stay = c.1.1.1.1.1;
    }) (λ _. refl)

abbrev pub coded_trip : Coded Trip
coded_trip =
    code_by (ℕ × (ℕ × (ℕ × (ℕ × (ℕ × ℕ)))))
    (coded× coded_ℕ (coded× coded_ℕ (coded× coded_ℕ (coded× coded_ℕ (coded× coded_ℕ coded_ℕ)))))
    (λ t. (t.from.0, (t.start, (t.to.0, (t.end, (t.metres, t.layers.0))))))
    (λ c. record {
      from = record { 0 = c.0 };
      start = c.1.0;
      to = record { 0 = c.1.1.0 };
      end = c.1.1.1.0;
      metres =
          c.1.1.1.1.0;
      layers = record { 0 = c.1.1.1.1.1 };
    }) (λ _. refl)

abbrev pub coded_problem : Coded Problem
coded_problem = code_by (ℕ × (map.FinMap pair_cmp Way × (List Layer × List Trip)))
    (coded× coded_ℕ (coded× coded_deadheads (coded× (coded_list coded_layer) (coded_list coded_trip))))
    (λ p. (p.stops, (p.deadheads, (p.layers, p.trips))))
    (λ c. record { stops = c.0; deadheads = c.1.0; layers = c.1.1.0; trips = c.1.1.1 }) (λ _. refl)
