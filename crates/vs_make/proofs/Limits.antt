-- What a made text declares is an instance: its deadheads stand once and are closed, and all lies within the limits.
use Rattle.std.proofs.Common.{◌≡◌, ◌≢◌, ℕ, zero, suc, ◌+◌, ◌*◌, ◌<◌, ◌≤◌, Bool, true, false, cond, leb, eqb, not, ◌&&◌, List, [], ◌∷◌, length, get_or, map, refl, sym, ap, ◌∙◌, subst, inl, inr, arith}
use Rattle.std.specs.Prelude.{All, AllPairs, Contains, IfSome, IsSomeAnd, filter, flat_map}
use Rattle.std.specs.FinMap as map
use Rattle.std.specs.List.{range_with_len}
use Rattle.std.specs.declared.option.Option.{Option}
use Rattle.std.specs.declared.option.Option.TheVariants as option
use Rattle.std.proofs.lemmas.Bool.{cases_eq, eq-eqb, false≢true, leb-true, ne_eqb}
use Rattle.std.proofs.lemmas.List.{length-map, get_or-map}
use Rattle.std.proofs.lemmas.List.Elements.{All-append, All-cons, All-filter, All-head, All-map, All-nil, All-tail, All-weaker, Contains-append_left, Contains-append_right, filter_passes}
use Rattle.std.proofs.lemmas.List.FromFn.{get_or-range_with_len, length-map-range_with_len, length-range_with_len}
use Rattle.std.proofs.lemmas.Nat.{mul-le}
use Rattle.std.proofs.lemmas.Option.{none-some}
use Rattle.vs_types.specs.LayerSet.{members}
use Rattle.vs_types.proofs.CallerLemmas.{Contains-filter}
use Rattle.vs_instance.specs.declared.parts.Deadhead.{Deadhead}
use Rattle.vs_instance.specs.declared.way.Way.{Way}
use Rattle.vs_instance.specs.Problem.{pair_cmp}
use Rattle.vs_instance.specs.Dearest.{dearest}
use Rattle.vs_instance.specs.Instance.{IsClosed, IsDeadhead, IsInstance, IsLayer, IsNoLonger, IsPayable, IsTrip}
use Rattle.vs_instance.specs.Misfits.{are_twins, deadheads_of}
use Rattle.vs_instance.proofs.CallerLemmas.{given_all, own_way}
use Rattle.vs_reader.specs.declared.version.Version.{Version}
use Rattle.vs_reader.specs.declared.version.Version.TheVariants.{One, Two, Three}
use Rattle.vs_reader.specs.Versions.{most_in}
use Rattle.vs_make.specs.declared.sequence.Draws.{Draws}
use Rattle.vs_make.specs.Generator.{distance, draws, number_at}
use Rattle.vs_make.specs.Made.{drawn_trip, made_deadhead, made_deadheads, made_deadheads_from, made_layer, made_layers, made_problem, made_trip}
use Rattle.vs_make.proofs.Draws.{IsDrawn, all_drawn, depot_below, ends_early, few_driven, few_metres, few_minutes, few_steps, no_detour, some_steps}
use Rattle.vs_make.proofs.LayersNamed.{has_below, some_member}
use Rattle.vs_rows.proofs.CallerLemmas.{all_below, cond_parts}

-- the pair of a deadhead as one number
abbrev code_of : Deadhead → ℕ
code_of d = d.from.0 * 12 + d.to.0

-- the codes rise, from this number on
abbrev rises : ℕ → List Deadhead → Bool
rises low [] = true
rises low (d ∷ ds) = cond (leb low (code_of d)) (rises (code_of d + 1) ds) false

all_from : (low : ℕ) (ds : List Deadhead) → rises low ds ≡ true → All (λ d. low ≤ code_of d) ds
all_from low [] e = All-nil (λ (d : Deadhead). low ≤ code_of d)
all_from low (d ∷ ds) e =
    let both = cond_parts (leb low (code_of d)) (rises (code_of d + 1) ds) e in
    let here = leb-true low (code_of d) both.0 in
    All-cons (λ (x : Deadhead). low ≤ code_of x) d ds here
    (All-weaker (λ (x : Deadhead). code_of d + 1 ≤ code_of x) (λ (x : Deadhead). low ≤ code_of x)
    (λ x later. omega arith) ds (all_from (code_of d + 1) ds both.1))

rising_pairs : (low : ℕ) (ds : List Deadhead) → rises low ds ≡ true → AllPairs (λ d e. code_of d < code_of e) ds
rising_pairs low [] e i j x less within = absurd (omega arith)
rising_pairs low (d ∷ ds) e i zero x less within = absurd (omega arith)
rising_pairs low (d ∷ ds) e zero (suc j) x less within =
    let both = cond_parts (leb low (code_of d)) (rises (code_of d + 1) ds) e in
    let later = all_from (code_of d + 1) ds both.1 j x (omega arith) in
    omega arith
rising_pairs low (d ∷ ds) e (suc i) (suc j) x less within =
    let both = cond_parts (leb low (code_of d)) (rises (code_of d + 1) ds) e in
    rising_pairs (code_of d + 1) ds both.1 i j x (omega arith) (omega arith)

no_twins : (d e : Deadhead) → code_of d < code_of e → are_twins d e ≡ false
no_twins d e less =
    elim (cases_eq d.from.0 e.from.0) [
      | inl same ↦
          let apart : d.to.0 ≡ e.to.0 → ⊥ = λ also. omega (arith, same, also, less) in
          ap (λ (b : Bool). b && eqb d.to.0 e.to.0) (eq-eqb d.from.0 e.from.0 same) ∙ ne_eqb d.to.0 e.to.0 apart
      | inr apart ↦ ap (λ (b : Bool). b && eqb d.to.0 e.to.0) (ne_eqb d.from.0 e.from.0 apart)
    ]

they_rise : rises 0 made_deadheads ≡ true
unfolding made_deadheads
they_rise = refl

-- no deadhead stands twice
pub once : AllPairs (λ d e. are_twins d e ≡ false) made_deadheads
once i j x less within =
    no_twins (get_or made_deadheads i x) (get_or made_deadheads j x)
    (rising_pairs 0 made_deadheads they_rise i j x less within)

-- a pair of distinct stops, and the way between them
record IsMadeWay (pair : ℕ × ℕ) (w : Way) : Type 0 where
  from : pair.0 < 12
  to : pair.1 < 12
  apart : pair.0 ≢ pair.1
  minutes : w.minutes ≡ 6 * distance pair.0 pair.1
  metres : w.metres ≡ 2500 * distance pair.0 pair.1

abbrev IsMadeDeadhead : Deadhead → Type 0
IsMadeDeadhead d = IsMadeWay (d.from.0, d.to.0) (record { minutes = d.minutes; metres = d.metres })

abbrev others : ℕ → List ℕ
others k = filter (λ s. not (eqb s k)) (range_with_len 0 12)

other_stops : (k : ℕ) → All (λ s. (s < 12) × (k ≢ s)) (others k)
other_stops k i x within = (
  All-filter (λ s. not (eqb s k)) (λ s. s < 12) (range_with_len 0 12) (all_below 12) i x within,
  λ same. passed (get_or (others k) i x)
      (filter_passes (λ s. not (eqb s k)) (range_with_len 0 12) i x within) (sym same),
)
  where
    passed : (s : ℕ) → not (eqb s k) ≡ true → ¬ (s ≡ k)
    passed s e same = false≢true (ap not (sym (eq-eqb s k same)) ∙ e)

all_from_stop : (k : ℕ) → k < 12 → All IsMadeDeadhead (made_deadheads_from k)
all_from_stop k from =
    All-map IsMadeDeadhead (made_deadhead k) (others k) (λ i x within.
    let to = other_stops k i x within in
    record { from = from; to = to.0; apart = to.1; minutes = refl; metres = refl })

all_made : (ks : List ℕ) → All (λ k. k < 12) ks → All IsMadeDeadhead (flat_map made_deadheads_from ks)
all_made [] below = All-nil IsMadeDeadhead
all_made (k ∷ ks) below =
    All-append IsMadeDeadhead (made_deadheads_from k) (flat_map made_deadheads_from ks)
    (all_from_stop k (All-head (λ j. j < 12) k ks below)) (all_made ks (All-tail (λ j. j < 12) k ks below))

deadheads_are_made : All IsMadeDeadhead made_deadheads
unfolding made_deadheads
deadheads_are_made = all_made (range_with_len 0 12) (all_below 12)

-- a way that is given is one of these
given : (pair : ℕ × ℕ) (w : Way) → map.get (deadheads_of made_deadheads) pair ≡ option.Some w → IsMadeWay pair w
given pair w is =
    given_all IsMadeWay map.empty made_deadheads
    (λ q v none. absurd (none-some v (sym (map.get-empty pair_cmp q) ∙ none)))
    deadheads_are_made pair w is

-- and between distinct stops there is one
contains_stop : (k : ℕ) → k < 12 → Contains (range_with_len 0 12) k
contains_stop k below =
    (k, omega (arith, length-range_with_len 0 12), omega (arith, get_or-range_with_len 0 12 k k below))

contains_map : (k s : ℕ) (ss : List ℕ) → Contains ss s → Contains (map (made_deadhead k) ss) (made_deadhead k s)
contains_map k s ss among = (
  among.0,
  omega (arith, among.1, length-map ss (made_deadhead k)),
  get_or-map (made_deadhead k) ss among.0 s (made_deadhead k s) among.1 ∙ ap (made_deadhead k) among.2,
)

contains_from : (k s : ℕ) → s < 12 → k ≢ s → Contains (made_deadheads_from k) (made_deadhead k s)
contains_from k s to apart =
    contains_map k s (others k)
    (Contains-filter (λ x. not (eqb x k)) (range_with_len 0 12) s (contains_stop s to)
    (ap not (ne_eqb s k (λ same. apart (sym same)))))

contains_in : (k s : ℕ) (ks : List ℕ) → Contains ks k → s < 12 → k ≢ s
    → Contains (flat_map made_deadheads_from ks) (made_deadhead k s)
contains_in k s [] among to apart = absurd (omega (arith, among.1))
contains_in k s (j ∷ ks) (zero, within, is) to apart =
    Contains-append_left (made_deadheads_from j) (flat_map made_deadheads_from ks) (made_deadhead k s)
    (subst (λ (x : ℕ). Contains (made_deadheads_from x) (made_deadhead k s)) (sym is) (contains_from k s to apart))
contains_in k s (j ∷ ks) (suc i, within, is) to apart =
    Contains-append_right (made_deadheads_from j) (flat_map made_deadheads_from ks) (made_deadhead k s)
    (contains_in k s ks (i, omega arith, is) to apart)

contains_deadhead : (k s : ℕ) → k < 12 → s < 12 → k ≢ s → Contains made_deadheads (made_deadhead k s)
unfolding made_deadheads
contains_deadhead k s from to apart = contains_in k s (range_with_len 0 12) (contains_stop k from) to apart

there : (k s : ℕ) → k < 12 → s < 12 → k ≢ s → map.get (deadheads_of made_deadheads) (k, s)
    ≡ option.Some (record { minutes = 6 * distance k s; metres = 2500 * distance k s })
there k s from to apart =
    let among = contains_deadhead k s from to apart in
    subst (λ (d : Deadhead). map.get (deadheads_of made_deadheads) (d.from.0, d.to.0)
    ≡ option.Some (record { minutes = d.minutes; metres = d.metres })) among.2
    (own_way map.empty made_deadheads once among.0 (made_deadhead k s) among.1)

some_way : (o : Option Way) (P : Way → Type 0) → ((w : Way) → o ≡ option.Some w → P w) → IfSome o P
some_way option.None P each = tt
some_way (option.Some w) P each = each w refl

is_some : (o : Option Way) (w : Way) (P : Way → Type 0) → o ≡ option.Some w → P w → IsSomeAnd o P
is_some o w P is holds = subst (λ (x : Option Way). IsSomeAnd x P) (sym is) holds

-- the instance
module _ (n : ℕ) (few : n ≤ 10000) where
  deadhead_fits : (k s : ℕ) (w : Way) → IsMadeWay (k, s) w → IsDeadhead (made_problem n) k s w
  deadhead_fits k s w is =
      let steps = few_steps k s is.from is.to in
      let some = some_steps k s is.apart in
      record {
        from = is.from;
        to = is.to;
        apart = is.apart;
        some_minutes = some_of w.minutes (distance k s) some is.minutes;
        minutes = up_to w.minutes 30 1440 (rw is.minutes (few_minutes (distance k s) steps)) (omega arith);
        metres = up_to w.metres 12500 1000000 (rw is.metres (few_metres (distance k s) steps)) (omega arith);
      }
    where
      some_of : (minutes steps : ℕ) → 1 ≤ steps → minutes ≡ 6 * steps → 1 ≤ minutes
      some_of minutes steps some is = omega arith

      up_to : (x m most : ℕ) → x ≤ m → m ≤ most → x ≤ most
      up_to x m most few below = omega arith

  no_longer : (k s t : ℕ) (a b : Way) → IsMadeWay (k, s) a → IsMadeWay (s, t) b
      → IsNoLonger a b (record { minutes = 6 * distance k t; metres = 2500 * distance k t })
  no_longer k s t a b first second =
      let less = no_detour k s t in
      let first_steps : ℕ = distance k s in
      let next_steps : ℕ = distance s t in
      record {
        minutes = six a.minutes b.minutes first_steps next_steps (distance k t) first.minutes second.minutes less;
        metres = many a.metres b.metres first_steps next_steps (distance k t) first.metres second.metres less;
      }
    where
      six : (x y i j l : ℕ) → x ≡ 6 * i → y ≡ 6 * j → l ≤ i + j → 6 * l ≤ x + y
      six x y i j l is also less = omega arith

      many : (x y i j l : ℕ) → x ≡ 2500 * i → y ≡ 2500 * j → l ≤ i + j → 2500 * l ≤ x + y
      many x y i j l is also less = omega arith

  closed : IsClosed (made_problem n)
  closed k s t a b apart is also =
      let first = given (k, s) a is in
      let second = given (s, t) b also in
      is_some (map.get (deadheads_of made_deadheads) (k, t))
      (record { minutes = 6 * distance k t; metres = 2500 * distance k t }) (IsNoLonger a b)
      (there k t first.from second.to apart) (no_longer k s t a b first second)

  layer_fits : (l : ℕ) → l < 4 → IsLayer (made_problem n) (made_layer n l)
  layer_fits l below = record {
    depot = depot_below l;
    fleet = omega arith;
    fixed = omega arith;
    per_minute = omega arith;
    per_metre = omega arith;
    stay = tt;
  }

  layers_fit : All (IsLayer (made_problem n)) (made_layers n)
  unfolding made_layers
  layers_fit = All-map (IsLayer (made_problem n)) (made_layer n) (range_with_len 0 4)
      (λ k d within. layer_fits (get_or (range_with_len 0 4) k d) (all_below 4 k d within))

  few_trips : length (map (drawn_trip n) (range_with_len 0 n)) ≤ 10000
  few_trips = omega (arith, length-map-range_with_len (drawn_trip n) 0 n)

  layer_payable : (l : ℕ) → l < 4 → IsPayable (length (map (drawn_trip n) (range_with_len 0 n))) (made_layer n l)
  layer_payable l below =
      let trips : ℕ = length (map (drawn_trip n) (range_with_len 0 n)) in
      let most = mul-le trips (dearest (made_layer n l)) 10000 2000000 few_trips (omega arith) in
      omega (arith, most)

  layers_payable : All (IsPayable (length (map (drawn_trip n) (range_with_len 0 n)))) (made_layers n)
  unfolding made_layers
  layers_payable =
      All-map (IsPayable (length (map (drawn_trip n) (range_with_len 0 n)))) (made_layer n) (range_with_len 0 4)
      (λ k d within. layer_payable (get_or (range_with_len 0 4) k d) (all_below 4 k d within))

  -- no fleet is past the limit of the text's version
  fleet_fits : (v : Version) → n ≤ most_in v → (l : ℕ) → (made_layer n l).fleet ≤ most_in v
  fleet_fits One within l = omega (arith, within)
  fleet_fits Two within l = omega (arith, within)
  fleet_fits Three within l = omega (arith, within)

  pub fleets_fit : (v : Version) → n ≤ most_in v → All (λ layer. layer.fleet ≤ most_in v) (made_layers n)
  unfolding made_layers
  fleets_fit v within =
      All-map (λ layer. layer.fleet ≤ most_in v) (made_layer n) (range_with_len 0 4)
      (λ k d within_list. fleet_fits v within (get_or (range_with_len 0 4) k d))

  four_layers : length (made_layers n) ≡ 4
  unfolding made_layers
  four_layers = refl

  lasts : (start steps extra : ℕ) → 5 ≤ extra → start < start + (6 * steps + extra)
  lasts start steps extra some = omega arith

  no_members : (d : Draws) → IsDrawn d → members d.layers ≢ []
  no_members d is none =
      let one = some_member d.layers is.some_layer is.four_layers in omega (arith, one.1.1, ap length none)

  trip_fits : (d : Draws) → IsDrawn d → IsTrip (made_problem n) (made_trip d)
  trip_fits d is = let steps = few_steps d.from d.to is.from is.to in record {
    from = is.from;
    to = is.to;
    end = ends_early d.start (distance d.from d.to) d.extra is.early steps is.few_extra;
    lasts = lasts d.start (distance d.from d.to) d.extra is.some_extra;
    metres = metres_fit (3000 * distance d.from d.to) (few_driven (distance d.from d.to) steps);
    some_layer = no_members d is;
    layers = λ l has. let below = has_below d.layers is.some_layer is.four_layers l has in omega (arith, four_layers);
  }
    where
      metres_fit : (m : ℕ) → m ≤ 15000 → m ≤ 1000000
      metres_fit m few = omega arith

  pub is_instance : IsInstance (made_problem n)
  is_instance = record {
    few_stops = omega arith;
    few_layers = omega (arith, four_layers);
    few_trips = few_trips;
    layers = layers_fit;
    payable = layers_payable;
    deadheads = λ k s. some_way (map.get (deadheads_of made_deadheads) (k, s)) (IsDeadhead (made_problem n) k s)
        (λ w is. deadhead_fits k s w (given (k, s) w is));
    trips = All-map (IsTrip (made_problem n)) (drawn_trip n) (range_with_len 0 n)
        (λ k d within. trip_fits (draws (number_at (n + 1) (5 * get_or (range_with_len 0 n) k d)))
        (all_drawn (number_at (n + 1) (5 * get_or (range_with_len 0 n) k d))));
    closed = closed;
  }
