-- One table more is named, and one more is taken.
use Rattle.std.proofs.Common.{◌≡◌, ℕ, zero, suc, ◌+◌, ◌<◌, List, [], ◌∷◌, ◌++◌, length, map, get_or, set, take, refl, sym, ap, ◌∙◌, subst, arith, Some, slice_get, length-take}
use Rattle.std.specs.List.{All, AllZip}
use Rattle.std.proofs.lemmas.List.{get_or-take, get_or_default, map_more, map_push, take_more}
use Rattle.std.proofs.lemmas.List.Elements.{All-cons, All-head, All-nil, All-tail}
use Rattle.vs_prices.specs.declared.table.Table.{Table}
use Rattle.vs_cert.specs.Numbering.{with_number}
use Rattle.vs_cert.specs.StateDocument.{first_times}
use Rattle.vs_cert.proofs.CallerLemmas.{first_times-more, stands-more}
use Rattle.vs_resume.specs.declared.cases.Case.{Case}
use Rattle.vs_resume.specs.Writing.{AreTaken, IsOnce}
use Rattle.vs_resume.proofs.worths.Settled.{tables_in}
use Rattle.vs_resume.proofs.trees.Zips.{zip-append, zip-weaker}

-- a number stands at its place
abbrev pub StandsIn : List ℕ → ℕ → ℕ → Type 0
StandsIn numbers place n = slice_get numbers place ≡ Some n

module _ (cases : List Case) (i : ℕ) (found : Case) (inside : i < length cases)
    (is : found ≡ get_or cases i found) where
  names_more : tables_in (take (i + 1) cases) ≡ tables_in (take i cases) ++ found.table ∷ []
  names_more =
      map_more (λ (f : Case). f.table) cases i found inside
      ∙ ap (λ (f : Case). tables_in (take i cases) ++ f.table ∷ []) (sym is)

  pub numbers_more : (old new : List ℕ) → old ≡ first_times (tables_in (take i cases))
      → new ≡ with_number old found.table → new ≡ first_times (tables_in (take (i + 1) cases))
  numbers_more old new before more =
      more ∙ ap (λ (ns : List ℕ). with_number ns found.table) before
      ∙ sym (first_times-more (tables_in (take i cases)) found.table) ∙ ap first_times (sym names_more)

  pub places_more : (old new places : List ℕ) (place : ℕ) → new ≡ with_number old found.table
      → slice_get new place ≡ Some found.table → AllZip (StandsIn old) places (tables_in (take i cases))
      → AllZip (StandsIn new) (places ++ place ∷ []) (tables_in (take (i + 1) cases))
  places_more old new places place more stands each =
      subst (AllZip (StandsIn new) (places ++ place ∷ [])) (sym names_more)
      (zip-append (StandsIn new) places (place ∷ []) (tables_in (take i cases)) (found.table ∷ [])
      (zip-weaker (StandsIn old) (StandsIn new)
      (λ k n at. ap (λ (ns : List ℕ). slice_get ns k) more ∙ stands-more old found.table k n at) places
      (tables_in (take i cases)) each)
      (stands, tt))

-- a table that was not taken yet stands where it did
abbrev pub AreLeft : List Table → List ℕ → List Table → Type 0
AreLeft before numbers now = (n : ℕ) → All (λ m. ¬ (m ≡ n)) numbers → slice_get now n ≡ slice_get before n

slice_get-set_other : {A : Type 0} (xs : List A) (i j : ℕ) (x : A) → ¬ (i ≡ j)
    → slice_get (set xs i x) j ≡ slice_get xs j
slice_get-set_other [] i j x other = refl
slice_get-set_other (y ∷ xs) zero zero x other = absurd (other refl)
slice_get-set_other (y ∷ xs) zero (suc j) x other = refl
slice_get-set_other (y ∷ xs) (suc i) zero x other = refl
slice_get-set_other (y ∷ xs) (suc i) (suc j) x other = slice_get-set_other xs i j x (λ same. other (ap suc same))

module _ (before now : List Table) (numbers : List ℕ) (once : IsOnce numbers) (i n : ℕ) (inside : i < length numbers)
    (is : n ≡ get_or numbers i 0) (left : AreLeft before (take i numbers) now) where
  more_numbers : take (i + 1) numbers ≡ take i numbers ++ n ∷ []
  more_numbers = take_more numbers i 0 inside ∙ ap (λ (m : ℕ). take i numbers ++ m ∷ []) (sym is)

  -- this number wasn't among those before
  first_time : All (λ m. ¬ (m ≡ n)) (take i numbers)
  first_time k d below =
      let short : k < i = omega (arith, below, length-take i numbers) in
      let here : get_or (take i numbers) k d ≡ get_or numbers k d = get_or-take i numbers k d short in
      let there : get_or numbers i d ≡ n = get_or_default numbers i d 0 inside ∙ sym is in
      λ same. once k i d short inside (sym here ∙ same ∙ sym there)

  pub stands_still : slice_get now n ≡ slice_get before n
  stands_still = left n first_time

  pub taken_more : (some : List Table) (table : Table) → slice_get now n ≡ Some table
      → AreTaken before (take i numbers) some → AreTaken before (take (i + 1) numbers) (some ++ table ∷ [])
  taken_more some table at taken =
      map_push Some some table ∙ ap (λ xs. xs ++ Some table ∷ []) taken
      ∙ ap (λ x. map (slice_get before) (take i numbers) ++ x ∷ []) (sym at ∙ stands_still)
      ∙ sym (map_push (slice_get before) (take i numbers) n)
      ∙ ap (map (slice_get before)) (sym more_numbers)

  pub left_more : (table : Table) → AreLeft before (take (i + 1) numbers) (set now n table)
  left_more table m others =
      let all = subst (All (λ (k : ℕ). ¬ (k ≡ m))) more_numbers others in
      let not_n : ¬ (n ≡ m) = last_other (take i numbers) m all in
      slice_get-set_other now n m table not_n ∙ left m (first_others (take i numbers) m all)
    where
      last_other : (xs : List ℕ) (m : ℕ) → All (λ (k : ℕ). ¬ (k ≡ m)) (xs ++ n ∷ []) → ¬ (n ≡ m)
      last_other [] m all = All-head (λ (k : ℕ). ¬ (k ≡ m)) n [] all
      last_other (x ∷ xs) m all = last_other xs m (All-tail (λ (k : ℕ). ¬ (k ≡ m)) x (xs ++ n ∷ []) all)

      first_others : (xs : List ℕ) (m : ℕ) → All (λ (k : ℕ). ¬ (k ≡ m)) (xs ++ n ∷ []) → All (λ (k : ℕ). ¬ (k ≡ m)) xs
      first_others [] m all = All-nil (λ (k : ℕ). ¬ (k ≡ m))
      first_others (x ∷ xs) m all =
          All-cons (λ (k : ℕ). ¬ (k ≡ m)) x xs (All-head (λ (k : ℕ). ¬ (k ≡ m)) x (xs ++ n ∷ []) all)
          (first_others xs m (All-tail (λ (k : ℕ). ¬ (k ≡ m)) x (xs ++ n ∷ []) all))
