-- The records of a made text declare its instance, one after another.
use Rattle.std.proofs.Common.{◌≡◌, ℕ, zero, suc, ◌+◌, ◌*◌, ◌/◌, ◌<◌, ◌≤◌, Bool, false, List, [], ◌∷◌, ◌++◌, length, map, append_assoc, append-nil, codes, decimal, refl, sym, ap, subst, inl, inr, arith}
use Rattle.std.specs.Prelude.{All, None, filter, flat_map, not, ◌==◌}
use Rattle.std.specs.List.{range_with_len}
use Rattle.std.proofs.lemmas.List.Elements.{All-filter, All-head, All-tail}
use Rattle.std.proofs.lemmas.List.FromFn.{length-map-range_with_len, map-range_with_len_more}
use Rattle.std.proofs.lemmas.List.{length-map}
use Rattle.vs_types.specs.LayerSet.{members}
use Rattle.vs_instance.specs.declared.parts.Deadhead.{Deadhead}
use Rattle.vs_instance.specs.declared.layer.Layer.{Layer}
use Rattle.vs_reader.specs.declared.version.Version.{Version}
use Rattle.vs_reader.specs.Rows.{Field, Row}
use Rattle.vs_reader.specs.Names.{Names}
use Rattle.vs_reader.specs.Versions.{most_in, writes_stay}
use Rattle.vs_reader.specs.InstanceText.{AddAll, Adds, DeadheadRow, Declared, LayerRow, StayOf, TripRow, nothing_yet, stay_fields}
use Rattle.vs_rows.specs.Fields.{numbered, time_field}
use Rattle.vs_rows.proofs.CallerLemmas.{all_below}
use Rattle.vs_make.specs.declared.sequence.Draws.{Draws}
use Rattle.vs_make.specs.Generator.{deadhead_row, deadheads_from, depot_of, distance, drawn_row, draws, end_of, layer_name, layer_names, layer_row, number_at, stop_name, stop_row, trip_row}
use Rattle.vs_make.specs.Made.{depot_names, drawn_trip, made_deadhead, made_deadheads, made_deadheads_from, made_layer, made_layers, made_trip, stop_names}
use Rattle.vs_make.proofs.Fields.{lettered, lettered_name, new_in_order, writes_number, writes_one, writes_ten, writes_time, writes_up_to}
use Rattle.vs_make.proofs.Draws.{IsDrawn, all_drawn, depot_below, ends_early, few_driven, few_metres, few_minutes, few_steps}
use Rattle.vs_make.proofs.LayersNamed.{names_layers, some_member}

-- all stops, and nothing else
abbrev pub all_stops : Declared
all_stops = record {
  names = record { stops = stop_names; layers = []; trips = [] };
  deadheads = [];
  layers = [];
  trips = [];
}

-- in a text of this version, whose layers write no least rest
module _ (version : Version) (no_stay : writes_stay version 7 ≡ false) where
  -- records that declare more behind others
  pub added_both : (a b c : Declared) (rows more : List Row) → AddAll version a rows b → AddAll version b more c
      → AddAll version a (rows ++ more) c
  added_both a b c [] more first then = subst (λ (d : Declared). AddAll version d more c) first then
  added_both a b c (row ∷ rows) more first then = (first.0, first.1, added_both first.0 b c rows more first.2 then)

  -- records in order, each of which leads from one state to the next
  added_in_order : (row : ℕ → Row) (state : ℕ → Declared) (k n : ℕ)
      → ((i : ℕ) → i < k + n → Adds version (state i) (row i) (state (i + 1)))
      → AddAll version (state k) (map row (range_with_len k n)) (state (k + n))
  added_in_order row state k zero each = let same : k + 0 ≡ k = omega arith in ap state same
  added_in_order row state k (suc n) each =
      let end : (k + 1) + n ≡ k + suc n = omega arith in
      let rest = added_in_order row state (k + 1) n (λ i below. each i (omega arith)) in (
        state (k + 1),
        each k (omega arith),
        subst (λ (m : ℕ). AddAll version (state (k + 1)) (map row (range_with_len (k + 1) n)) (state m)) end rest,
      )

  -- the stops
  abbrev with_stops : ℕ → Declared
  with_stops k = record {
    names = record { stops = map stop_name (range_with_len 0 k); layers = []; trips = [] };
    deadheads = [];
    layers = [];
    trips = [];
  }

  stop_added : (k : ℕ) → k < 12 → Adds version (with_stops k) (stop_row k) (with_stops (k + 1))
  stop_added k few = inl (record {
    name = stop_name k;
    row_is = refl;
    new_name = record {
      name = lettered_name 83 k (omega arith, omega arith) (omega arith);
      new = new_in_order 83 k (omega arith);
    };
    room = omega (arith, length-map-range_with_len (lettered 83) 0 k);
    added = ap (λ (names : List Field). record {
      names = record { stops = names; layers = []; trips = [] };
      deadheads = [];
      layers = [];
      trips = [];
    }) (map-range_with_len_more (lettered 83) 0 k k (omega arith));
  })

  pub stops_added : (ks : List ℕ) → ks ≡ range_with_len 0 12 → AddAll version nothing_yet (map stop_row ks) all_stops
  unfolding stop_names
  stops_added ks are =
      subst (λ (js : List ℕ). AddAll version nothing_yet (map stop_row js) (with_stops 12)) (sym are)
      (added_in_order stop_row with_stops 0 12 (λ i below. stop_added i below))

  module _ (stops : List Field) (named_stop : (k : ℕ) → k < 12 → Names stops (stop_name k) k) where
    -- the deadheads
    abbrev with_deadheads : List Deadhead → Declared
    with_deadheads deadheads = record {
      names = record { stops = stops; layers = []; trips = [] };
      deadheads = deadheads;
      layers = [];
      trips = [];
    }

    deadhead_written : (k s : ℕ) → k < 12 → s < 12 → DeadheadRow stops (deadhead_row k s) (made_deadhead k s)
    deadhead_written k s from to = let few = few_steps k s from to in record {
      from = stop_name k;
      to = stop_name s;
      minutes = decimal (6 * distance k s);
      metres = decimal (2500 * distance k s);
      row_is = refl;
      from_is = named_stop k from;
      to_is = named_stop s to;
      minutes_are = writes_up_to (6 * distance k s) 30 (few_minutes (distance k s) few) (omega arith);
      metres_are = writes_up_to (2500 * distance k s) 12500 (few_metres (distance k s) few) (omega arith);
    }

    added_from : (k : ℕ) → k < 12 → (ss : List ℕ) → All (λ s. s < 12) ss → (before : List Deadhead)
        → AddAll version (with_deadheads before) (map (deadhead_row k) ss)
        (with_deadheads (before ++ map (made_deadhead k) ss))
    added_from k from [] below before = ap with_deadheads (append-nil before)
    added_from k from (s ∷ ss) below before =
        let one : List Deadhead = before ++ made_deadhead k s ∷ [] in (
          with_deadheads one,
          inr (inl (record {
            deadhead = made_deadhead k s;
            row_is = deadhead_written k s from (All-head (λ t. t < 12) s ss below);
            added = refl;
          })),
          subst (λ (ds : List Deadhead). AddAll version (with_deadheads one) (map (deadhead_row k) ss)
              (with_deadheads ds))
              (append_assoc before (made_deadhead k s ∷ []) (map (made_deadhead k) ss))
              (added_from k from ss (All-tail (λ t. t < 12) s ss below) one),
        )

    added_from_all : (ks : List ℕ) → All (λ k. k < 12) ks → (before : List Deadhead)
        → AddAll version (with_deadheads before) (flat_map deadheads_from ks)
        (with_deadheads (before ++ flat_map made_deadheads_from ks))
    added_from_all [] below before = ap with_deadheads (append-nil before)
    added_from_all (k ∷ ks) below before =
        let others : List ℕ = filter (λ s. not (s == k)) (range_with_len 0 12) in
        let mid : List Deadhead = before ++ made_deadheads_from k in
        added_both (with_deadheads before) (with_deadheads mid)
        (with_deadheads (before ++ flat_map made_deadheads_from (k ∷ ks)))
        (deadheads_from k) (flat_map deadheads_from ks)
        (added_from k (All-head (λ j. j < 12) k ks below) others
        (All-filter (λ s. not (s == k)) (λ s. s < 12) (range_with_len 0 12) (all_below 12)) before)
        (subst (λ (ds : List Deadhead). AddAll version (with_deadheads mid) (flat_map deadheads_from ks)
        (with_deadheads ds))
        (append_assoc before (made_deadheads_from k) (flat_map made_deadheads_from ks))
        (added_from_all ks (All-tail (λ j. j < 12) k ks below) mid))

    pub deadheads_added : (ks : List ℕ) → ks ≡ range_with_len 0 12
        → AddAll version (with_deadheads []) (flat_map deadheads_from ks) (with_deadheads made_deadheads)
    unfolding made_deadheads
    deadheads_added ks are =
        subst (λ (js : List ℕ). AddAll version (with_deadheads []) (flat_map deadheads_from ks)
        (with_deadheads (flat_map made_deadheads_from js))) are
        (added_from_all ks (subst (λ (js : List ℕ). All (λ k. k < 12) js) (sym are) (all_below 12)) [])

    -- the layers
    module _ (n : ℕ) (few_trips : n ≤ 10000) (within : n ≤ most_in version) (deadheads : List Deadhead) where
      abbrev with_layers : ℕ → Declared
      with_layers l = record {
        names = record { stops = stops; layers = map layer_name (range_with_len 0 l); trips = [] };
        deadheads = deadheads;
        layers = map (made_layer n) (range_with_len 0 l);
        trips = [];
      }

      layer_written : (l : ℕ) → l < 4 → LayerRow version stops (layer_row n l) (layer_name l) (made_layer n l)
      layer_written l few = record {
        depot = stop_name (depot_of l);
        fleet = decimal (n / 4 + 8);
        fixed = decimal (50000 + 2000 * l);
        per_minute = codes "10";
        per_metre = codes "1";
        stay = [];
        row_is = ap (λ (w : Bool). codes "layer" ∷ layer_name l ∷ stop_name (depot_of l) ∷ decimal (n / 4 + 8)
            ∷ decimal (50000 + 2000 * l) ∷ codes "10" ∷ codes "1" ∷ stay_fields w []) (sym no_stay);
        depot_is = named_stop (depot_of l) (depot_below l);
        fleet_is = writes_number (n / 4 + 8) (omega arith);
        fixed_is = writes_number (50000 + 2000 * l) (omega arith);
        per_minute_is = writes_ten;
        per_metre_is = writes_one;
        stay_is = subst (λ (w : Bool). StayOf w [] None) (sym no_stay) refl;
      }

      layer_added : (l : ℕ) → l < 4 → Adds version (with_layers l) (layer_row n l) (with_layers (l + 1))
      layer_added l few =
          let names = map-range_with_len_more (lettered 76) 0 l l (omega arith) in
          let layers = map-range_with_len_more (made_layer n) 0 l l (omega arith) in
          inr (inr (inl (record {
            name = layer_name l;
            layer = made_layer n l;
            row_is = layer_written l few;
            new_name = record {
              name = lettered_name 76 l (omega arith, omega arith) (omega arith);
              new = new_in_order 76 l (omega arith);
            };
            room = omega (arith, length-map-range_with_len (lettered 76) 0 l);
            added = λ i. record {
              names = record { stops = stops; layers = names i; trips = [] };
              deadheads = deadheads;
              layers = layers i;
              trips = [];
            };
          })))

      abbrev pub all_layers : Declared
      all_layers = record {
        names = record { stops = stops; layers = depot_names; trips = [] };
        deadheads = deadheads;
        layers = made_layers n;
        trips = [];
      }

      pub layers_added : (ls : List ℕ) → ls ≡ range_with_len 0 4
          → AddAll version (with_deadheads deadheads) (map (layer_row n) ls) all_layers
      unfolding depot_names made_layers
      layers_added ls are =
          subst (λ (ks : List ℕ). AddAll version (with_deadheads deadheads) (map (layer_row n) ks)
          (with_layers 4)) (sym are)
          (added_in_order (layer_row n) with_layers 0 4 (λ i below. layer_added i below))

      -- the trips
      module _ (layer_fields : List Field) (layers : List Layer)
          (named_layer : (l : ℕ) → l < 4 → Names layer_fields (layer_name l) l) (four : length layer_fields ≡ 4) where
        abbrev with_trips : ℕ → Declared
        with_trips i = record {
          names = record {
            stops = stops;
            layers = layer_fields;
            trips = map (numbered (codes "T")) (range_with_len 0 i);
          };
          deadheads = deadheads;
          layers = layers;
          trips = map (drawn_trip n) (range_with_len 0 i);
        }

        trip_written : (names : List Field) (i : ℕ) (d : Draws) → IsDrawn d
            → TripRow (record { stops = stops; layers = layer_fields; trips = names }) (trip_row i d)
            (numbered (codes "T") i) (made_trip d)
        trip_written names i d is =
            let few = few_steps d.from d.to is.from is.to in
            let one = some_member d.layers is.some_layer is.four_layers in
            record {
              from = stop_name d.from;
              start = time_field d.start;
              to = stop_name d.to;
              end = time_field (end_of d);
              metres = decimal (3000 * distance d.from d.to);
              layers = layer_names d.layers;
              row_is = refl;
              from_is = named_stop d.from is.from;
              start_is = writes_time d.start (omega (arith, is.early));
              to_is = named_stop d.to is.to;
              end_is = writes_time (end_of d)
                  (ends_early d.start (distance d.from d.to) d.extra is.early few is.few_extra);
              metres_are =
                  writes_up_to (3000 * distance d.from d.to) 15000 (few_driven (distance d.from d.to) few)
                  (omega arith);
              some_layer = omega (arith, one.1.1, length-map (members d.layers) (lettered 76));
              layers_are = names_layers d.layers is.some_layer is.four_layers 76 layer_fields named_layer four;
            }

        trip_added : (i : ℕ) → i < n → Adds version (with_trips i) (drawn_row n i) (with_trips (i + 1))
        trip_added i inside =
            let names = map-range_with_len_more (lettered 84) 0 i i (omega arith) in
            let trips = map-range_with_len_more (drawn_trip n) 0 i i (omega arith) in
            let d : Draws = draws (number_at (n + 1) (5 * i)) in
            inr (inr (inr (record {
              name = numbered (codes "T") i;
              trip = made_trip d;
              row_is = trip_written (map (numbered (codes "T")) (range_with_len 0 i)) i d (all_drawn (number_at (n + 1)
                  (5 * i)));
              new_name = record {
                name = lettered_name 84 i (omega arith, omega arith) (omega arith);
                new = new_in_order 84 i (omega arith);
              };
              room = omega (arith, length-map-range_with_len (lettered 84) 0 i);
              added = λ j. record {
                names = record { stops = stops; layers = layer_fields; trips = names j };
                deadheads = deadheads;
                layers = layers;
                trips = trips j;
              };
            })))

        pub trips_added : AddAll version (with_trips 0) (map (drawn_row n) (range_with_len 0 n)) (with_trips n)
        trips_added =
            let all = added_in_order (drawn_row n) with_trips 0 n (λ i below. trip_added i (omega arith)) in
            let same : 0 + n ≡ n = omega arith in
            subst (λ (m : ℕ). AddAll version (with_trips 0) (map (drawn_row n) (range_with_len 0 n))
            (with_trips m)) same all
