-- What is declared, as parts of an instance.
use Rattle.std.proofs.Common.{◌≡◌, ◌≢◌, ℕ, ◌<◌, Bool, true, false, cond, eqb, List, [], ◌∷◌, length, get_or, refl, sym, ◌∙◌, arith}
use Rattle.std.specs.Prelude.{All, filter}
use Rattle.std.specs.Int.{bit_at}
use Rattle.std.proofs.lemmas.Bool.{agree_below_at, eqb-true, eq-eqb, true≢false}
use Rattle.std.proofs.lemmas.List.Elements.{All-nil, All-cons, All-get_or}
use Rattle.vs_types.specs.LayerSet.{Has, members, layer_numbers}
use Rattle.vs_types.specs.declared.layer_set.LayerSet.{LayerSet}
use Rattle.vs_types.specs.declared.numbers.TheConstants.{MAX_LAYERS}
use Rattle.vs_instance.specs.declared.parts.Parts.{Parts}
use Rattle.vs_instance.specs.Misfits.{AreParts}
use Rattle.vs_reader.specs.declared.version.Version.{Version}
use Rattle.vs_reader.specs.Versions.{most_in}
use Rattle.vs_reader.specs.Names.{NameLists}
use Rattle.vs_reader.specs.Drafts.{IsSound}
use Rattle.vs_reader.proofs.declaring.RuleLemmas.{most_in-≤}

-- a filter that keeps nothing passes nothing
filter-none : (p : ℕ → Bool) (xs : List ℕ) → filter p xs ≡ [] → All (λ x. p x ≡ false) xs
filter-none p [] is = All-nil (λ x. p x ≡ false)
filter-none p (x ∷ xs) is =
    elim (p x) as (λ b. p x ≡ b → cond b (x ∷ filter p xs) (filter p xs) ≡ [] → All (λ y. p y ≡ false) (x ∷ xs)) [
      | true ↦ λ passes some. cc
      | false ↦ λ fails none. All-cons (λ y. p y ≡ false) x xs fails (filter-none p xs none)
    ] refl is

number_at : (l : ℕ) → l < MAX_LAYERS → get_or layer_numbers l 0 ≡ l
unfolding layer_numbers
number_at l within =
    eqb-true (get_or layer_numbers l 0) l
    (agree_below_at (λ k. eqb (get_or layer_numbers k 0) k) (λ _. true) MAX_LAYERS l refl within)

length-layer_numbers : length layer_numbers ≡ MAX_LAYERS
unfolding layer_numbers
length-layer_numbers = refl

-- a set that a layer stands in has members
pub some_member : (set : LayerSet) (l : ℕ) → l < MAX_LAYERS → Has set l → members set ≢ []
some_member set l within has none =
    let fails =
    All-get_or (λ k. eqb (bit_at set.0 k) 1 ≡ false) layer_numbers l 0 (omega (arith, length-layer_numbers))
    (filter-none (λ k. eqb (bit_at set.0 k) 1) layer_numbers none) in
    true≢false (sym (eq-eqb (bit_at set.0 l) 1 has) ∙ (rw (number_at l within) at fails))

-- what is sound is made of parts
pub are_parts : (version : Version) (parts : Parts) (names : NameLists) → parts.most ≡ most_in version
    → parts.stops ≡ length names.stops
    → length parts.deadheads.items < 4294967296
    → IsSound version
    (record {
      names = names;
      deadheads = parts.deadheads.items;
      layers = parts.layers.items;
      trips =
          parts.trips.items;
    }) → AreParts parts
are_parts version parts names most stops few s = record {
  few_stops = omega (arith, s.few_stops, stops);
  few_layers = omega (arith, s.few_layers, s.each_layer);
  few_trips = omega (arith, s.few_trips, s.each_trip, most);
  most = omega (arith, most, most_in-≤ version);
  few_deadheads = few;
  layers = rw stops s.depots;
  deadheads = rw stops s.deadheads;
  trip_stops = rw stops s.trip_stops;
  trip_times = s.trip_times;
  trip_layers = λ k t within.
      let some = s.some_layer k t within in
      let below = s.trip_layers k t within in
      let small : some.0 < MAX_LAYERS = omega (arith, below some.0 some.1, s.few_layers) in
      (some_member _ some.0 small some.1, λ l has. omega (arith, below l has, s.each_layer));
}
