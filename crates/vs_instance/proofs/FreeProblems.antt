-- Problems where nothing costs anything: they are instances, with the same moves, whose pieces of cost are 0.
use Rattle.std.proofs.Common.{◌≡◌, ℕ, ◌+◌, ◌-◌, ◌*◌, ◌<◌, ◌≤◌, Bool, true, false, cond, leb, ◌⊎◌, inl, inr, length, map, refl, sym, ap, ◌∙◌, subst, arith, Option, Some, None}
use Rattle.std.specs.Prelude.{option_map, option_and_then}
use Rattle.std.specs.FinMap as map
use Rattle.std.proofs.lemmas.Bool.{cases_lt}
use Rattle.std.proofs.lemmas.List.{get_or-map, get_or_past, length-map}
use Rattle.std.proofs.lemmas.List.Elements.{All-map}
use Rattle.std.proofs.lemmas.Option.{IfSome_then}
use Rattle.vs_types.specs.declared.numbers.TheConstants.{MAX_LAYERS}
use Rattle.vs_instance.specs.declared.layer.Layer.{Layer}
use Rattle.vs_instance.specs.declared.trip.Trip.{Trip}
use Rattle.vs_instance.specs.declared.way.Way.{Way}
use Rattle.vs_instance.specs.Problem.{Problem}
use Rattle.vs_instance.specs.Instance.{IsDeadhead, IsInstance, IsLayer, IsPayable, IsTrip}
use Rattle.vs_instance.specs.Ways.{layer_of, no_layer, trip_of, way, way_between, way_in, way_out}
use Rattle.vs_instance.specs.Pieces.{direct_piece, in_piece, link_piece, no_more_than, out_piece, rated, rest_piece, trip_piece}
use Rattle.vs_instance.specs.Unrated.{unrated, without_rates}

module _ (p : Problem) where
  unrated-IsLayer : (layer : Layer) → IsLayer p layer → IsLayer (without_rates p) (unrated layer)
  unrated-IsLayer layer is = record {
    depot = is.depot;
    fleet = is.fleet;
    fixed = omega arith;
    per_minute = omega arith;
    per_metre = omega arith;
    stay = is.stay;
  }

  same-IsDeadhead : (k s : ℕ) (w : Way) → IsDeadhead p k s w → IsDeadhead (without_rates p) k s w
  same-IsDeadhead k s w is = record {
    from = is.from;
    to = is.to;
    apart = is.apart;
    some_minutes = is.some_minutes;
    minutes = is.minutes;
    metres = is.metres;
  }

  same-IsTrip : (trip : Trip) → IsTrip p trip → IsTrip (without_rates p) trip
  same-IsTrip trip is = record {
    from = is.from;
    to = is.to;
    end = is.end;
    lasts = is.lasts;
    metres = is.metres;
    some_layer = is.some_layer;
    layers = λ l has. subst (λ (n : ℕ). l < n) (sym (length-map p.layers unrated)) (is.layers l has);
  }

  -- without rates it is an instance too
  pub without_rates-IsInstance : IsInstance p → IsInstance (without_rates p)
  without_rates-IsInstance is = record {
    few_stops = is.few_stops;
    few_layers = subst (λ (n : ℕ). n ≤ MAX_LAYERS) (sym (length-map p.layers unrated)) is.few_layers;
    few_trips = is.few_trips;
    layers = All-map (IsLayer (without_rates p)) unrated p.layers
        (λ k d inside. unrated-IsLayer _ (is.layers k d inside));
    payable = All-map (IsPayable (length p.trips)) unrated p.layers (λ k d inside. omega arith);
    deadheads = λ k s. IfSome_then (map.get p.deadheads (k, s)) (is.deadheads k s) (same-IsDeadhead k s);
    trips = λ k d inside. same-IsTrip _ (is.trips k d inside);
    closed = is.closed;
  }

  -- a layer of it is one of the problem with rates of 0
  pub layer_of-without_rates : (l : ℕ) → layer_of (without_rates p) l ≡ unrated (layer_of p l)
  layer_of-without_rates l = by_place (cases_lt l (length p.layers))
    where
      by_place : (l < length p.layers) ⊎ (length p.layers ≤ l) → layer_of (without_rates p) l ≡ unrated (layer_of p l)
      by_place (inl within) = get_or-map unrated p.layers l no_layer no_layer within
      by_place (inr past) =
          let beyond : length (map unrated p.layers) ≤ l = omega (arith, past, length-map p.layers unrated) in
          get_or_past (map unrated p.layers) l no_layer beyond
          ∙ sym (ap unrated (get_or_past p.layers l no_layer past))

-- the same piece at no cost, where there is one
abbrev pub free : Option ℕ → Option ℕ
free piece = option_map (λ c. 0) piece

no_less : (piece : Option ℕ) → no_more_than piece 0 ≡ 0
no_less None = refl
no_less (Some other) = omega arith

free_link : (rest other : Option ℕ) (direct : Option ℕ)
    → option_map (no_more_than rest) (free direct) ≡ free (option_map (no_more_than other) direct)
free_link rest other None = refl
free_link rest other (Some c) = ap Some (no_less rest)

-- a way that costs nothing where it may be taken
free_in_time : (found : Option Way) (Early : Way → Bool) (cost paid : Way → ℕ) → ((w : Way) → cost w ≡ 0)
    → option_and_then (λ w. cond (Early w) (Some (cost w)) None) found
    ≡ free (option_and_then (λ w. cond (Early w) (Some (paid w)) None) found)
free_in_time None Early cost paid nothing = refl
free_in_time (Some w) Early cost paid nothing = by_test (Early w)
  where
    by_test : (b : Bool) → cond b (Some (cost w)) None ≡ free (cond b (Some (paid w)) None)
    by_test true = ap Some (nothing w)
    by_test false = refl

free_way : (found : Option Way) (cost paid : Way → ℕ) → ((w : Way) → cost w ≡ 0)
    → option_map cost found ≡ free (option_map paid found)
free_way None cost paid nothing = refl
free_way (Some w) cost paid nothing = ap Some (nothing w)

module _ (p : Problem) (l : ℕ) where
  rated-without_rates : (minutes metres : ℕ) → rated (without_rates p) l minutes metres ≡ 0
  rated-without_rates minutes metres =
      let none : 0 * minutes + 0 * metres ≡ 0 = omega arith in
      ap (λ (layer : Layer). layer.per_minute * minutes + layer.per_metre * metres) (layer_of-without_rates p l)
      ∙ none

  -- trips, pull-outs, links and pull-ins are the same and cost nothing
  pub trip-without_rates : (i : ℕ) → trip_piece (without_rates p) l i ≡ 0
  trip-without_rates i = rated-without_rates ((trip_of p i).end - (trip_of p i).start) (trip_of p i).metres

  out_cost : (w : Way) → (layer_of (without_rates p) l).fixed + rated (without_rates p) l w.minutes w.metres ≡ 0
  out_cost w =
      let fixed : (layer_of (without_rates p) l).fixed ≡ 0 =
      ap (λ (layer : Layer). layer.fixed) (layer_of-without_rates p l) in
      let rest = rated-without_rates w.minutes w.metres in
      omega (arith, fixed, rest)

  way_out-without_rates : (i : ℕ) → way_out (without_rates p) l i ≡ way_out p l i
  way_out-without_rates i =
      ap (λ (layer : Layer). way p layer.depot.0 (trip_of p i).from.0) (layer_of-without_rates p l)

  way_in-without_rates : (i : ℕ) → way_in (without_rates p) l i ≡ way_in p l i
  way_in-without_rates i =
      ap (λ (layer : Layer). way p (trip_of p i).to.0 layer.depot.0) (layer_of-without_rates p l)

  pub out-without_rates : (i : ℕ) → out_piece (without_rates p) l i ≡ free (out_piece p l i)
  out-without_rates i =
      let cost = λ (w : Way). (layer_of (without_rates p) l).fixed + rated (without_rates p) l w.minutes w.metres in
      ap (option_and_then (λ (w : Way). cond (leb w.minutes (trip_of p i).start) (Some (cost w)) None))
      (way_out-without_rates i)
      ∙ free_in_time (way_out p l i) (λ w. leb w.minutes (trip_of p i).start) cost
      (λ w. (layer_of p l).fixed + rated p l w.minutes w.metres) out_cost

  pub in-without_rates : (i : ℕ) → in_piece (without_rates p) l i ≡ free (in_piece p l i)
  in-without_rates i =
      ap (option_map (λ (w : Way). rated (without_rates p) l w.minutes w.metres)) (way_in-without_rates i)
      ∙ free_way (way_in p l i) (λ w. rated (without_rates p) l w.minutes w.metres)
      (λ w. rated p l w.minutes w.metres) (λ w. rated-without_rates w.minutes w.metres)

  direct-without_rates : (i j : ℕ) → direct_piece (without_rates p) l i j ≡ free (direct_piece p l i j)
  direct-without_rates i j =
      let minutes = (trip_of p j).start - (trip_of p i).end in
      free_in_time (way_between p i j) (λ w. leb ((trip_of p i).end + w.minutes) (trip_of p j).start)
      (λ w. rated (without_rates p) l minutes w.metres) (λ w. rated p l minutes w.metres)
      (λ w. rated-without_rates minutes w.metres)

  pub link-without_rates : (i j : ℕ) → link_piece (without_rates p) l i j ≡ free (link_piece p l i j)
  link-without_rates i j =
      ap (option_map (no_more_than (rest_piece (without_rates p) l i j))) (direct-without_rates i j)
      ∙ free_link (rest_piece (without_rates p) l i j) (rest_piece p l i j) (direct_piece p l i j)
