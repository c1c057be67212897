-- Trips that are gathered one after another.
use Rattle.std.proofs.Common.{◌≡◌, ℕ, zero, suc, ◌+◌, ◌<◌, ◌↔◌, Bool, true, false, cond, List, [], ◌∷◌, ◌++◌, length, map, refl, sym, ap, ◌∙◌, subst, arith}
use Rattle.std.specs.List.{All, filter, range_with_len}
use Rattle.std.proofs.lemmas.Bool.{eq-eqb, false≢true, ne_eqb}
use Rattle.std.proofs.lemmas.List.{map-append}
use Rattle.std.proofs.lemmas.List.Elements.{All-map, filter-append}
use Rattle.vs_types.specs.LayerSet.{Has}
use Rattle.vs_types.specs.declared.numbers.TripNo.{TripNo}
use Rattle.vs_instance.specs.declared.trip.Trip.{Trip}
use Rattle.vs_instance.specs.Problem.{Problem}
use Rattle.vs_instance.specs.Ways.{trip_of}
use Rattle.vs_peakcheck.specs.Counting.{numbered, permitted_trips}
use Rattle.vs_peakcheck.proofs.problem.PermittedTrips.{all_within, may}

-- one number more stands at the end
range_more : (a n : ℕ) → range_with_len a (n + 1) ≡ range_with_len a n ++ (a + n) ∷ []
range_more a zero = let e : a ≡ a + 0 = omega arith in ap (λ (x : ℕ). x ∷ []) e
range_more a (suc n) =
    let more : suc n + 1 ≡ suc (n + 1) = omega arith in
    let last : a + 1 + n ≡ a + suc n = omega arith in
    ap (range_with_len a) more
    ∙ ap (λ (xs : List ℕ). a ∷ xs)
    (range_more (a + 1) n ∙ ap (λ (x : ℕ). range_with_len (a + 1) n ++ x ∷ []) last)

cond_map : (b : Bool) (i : ℕ) → map numbered (cond b (i ∷ []) []) ≡ cond b (numbered i ∷ []) []
cond_map true i = refl
cond_map false i = refl

module _ (p : Problem) (l : ℕ) where
  -- the trips below i that the layer may run
  abbrev pub trips_below : ℕ → List TripNo
  trips_below i = map numbered (filter (may p l) (range_with_len 0 i))

  below_more : (i : ℕ) → trips_below (i + 1) ≡ trips_below i ++ cond (may p l i) (numbered i ∷ []) []
  below_more i =
      let last : 0 + i ≡ i = omega arith in
      ap (λ (xs : List ℕ). map numbered (filter (may p l) xs))
      (range_more 0 i ∙ ap (λ (x : ℕ). range_with_len 0 i ++ x ∷ []) last)
      ∙ ap (map numbered) (filter-append (may p l) (range_with_len 0 i) (i ∷ []))
      ∙ map-append numbered (filter (may p l) (range_with_len 0 i)) (cond (may p l i) (i ∷ []) [])
      ∙ ap (λ (xs : List TripNo). trips_below i ++ xs) (cond_map (may p l i) i)

  -- one more trip is looked at, which the layer may run or not
  pub trips_more : (i : ℕ) (before after : List TripNo) (test : Bool) → before ≡ trips_below i → may p l i ≡ test
      → after ≡ before ++ cond test (numbered i ∷ []) [] → after ≡ trips_below (i + 1)
  trips_more i before after test were tested is =
      is
      ∙ ap (λ (xs : List TripNo). xs ++ cond test (numbered i ∷ []) []) were
      ∙ ap (λ (b : Bool). trips_below i ++ cond b (numbered i ∷ []) []) (sym tested)
      ∙ sym (below_more i)

  -- the test of a bit is that of the set
  pub same_test : (i : ℕ) (trip : Trip) (b : Bool) → trip ≡ trip_of p i → (b ≡ true) ↔ Has trip.layers l
      → may p l i ≡ b
  same_test i trip b is iff = by_test b (subst (λ (t : Trip). (b ≡ true) ↔ Has t.layers l) is iff)
    where
      by_test : (b : Bool) → (b ≡ true) ↔ Has (trip_of p i).layers l → may p l i ≡ b
      by_test true iff = eq-eqb _ 1 (iff.0 refl)
      by_test false iff = ne_eqb _ 1 (λ e. false≢true (iff.1 e))

  -- all of them are trips of the problem
  pub numbers_within : All (λ i. i.0 < length p.trips) (map numbered (permitted_trips p l))
  numbers_within = All-map (λ (i : TripNo). i.0 < length p.trips) numbered (permitted_trips p l) (all_within p l)

-- what is made of each, made of its number
pub made_of_numbers : {X : Type 0} (f : TripNo → X) (ks : List ℕ)
    → map f (map numbered ks) ≡ map (λ k. f (numbered k)) ks
made_of_numbers f [] = refl
made_of_numbers {X = X} f (k ∷ ks) = ap (λ (xs : List X). f (numbered k) ∷ xs) (made_of_numbers f ks)
