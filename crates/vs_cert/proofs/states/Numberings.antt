-- Numbers by the places at which they first came.
use Rattle.std.proofs.Common.{◌≡◌, ◌≢◌, ℕ, zero, suc, ◌<◌, ◌==◌, not, ◌||◌, Bool, true, false, cond, List, [], ◌∷◌, ◌++◌, length, get_or, set, filter, refl, sym, ap, ◌∙◌, subst, arith, inl, inr, Option, Some, None, length-append}
use Rattle.std.specs.List.{All, list_any, slice_get}
use Rattle.std.specs.Option.{is_some}
use Rattle.std.proofs.lemmas.Bool.{cases_eq, eq-eqb, ne_eqb}
use Rattle.std.proofs.lemmas.List.{append-nil, get_or-set_other, get_or-set_same}
use Rattle.std.proofs.lemmas.List.Elements.{filter-append}
use Rattle.std.proofs.lemmas.List.Folds.{list_any_none}
use Rattle.std.proofs.lemmas.List.Sums.{sum_by-set}
use Rattle.std.proofs.lemmas.Option.{slice_get-get_or}
use Rattle.vs_cert.specs.Numbering.{ArePlacesOf, place_in, with_number}
use Rattle.vs_cert.specs.StateDocument.{first_times}

-- a number that stands at a place is among the numbers
among : (numbers : List ℕ) (k n : ℕ) → slice_get numbers k ≡ Some n → list_any (λ m. m == n) numbers ≡ true
among [] k n stands = absurd cc
among (m ∷ rest) zero n stands =
    let same : m ≡ n = cc in
    ap (λ (b : Bool). b || list_any (λ j. j == n) rest) (eq-eqb m n same)
among (m ∷ rest) (suc k) n stands =
    let later = among rest k n stands in
    elim (m == n) as (λ b. (b || list_any (λ j. j == n) rest) ≡ true) [ true ↦ refl | false ↦ later ]

-- what stands at a place stands there when more come behind
pub stands-append : (xs ys : List ℕ) (k n : ℕ) → slice_get xs k ≡ Some n → slice_get (xs ++ ys) k ≡ Some n
stands-append [] ys k n stands = absurd cc
stands-append (x ∷ xs) ys zero n stands = stands
stands-append (x ∷ xs) ys (suc k) n stands = stands-append xs ys k n stands

-- what stands behind others
pub stands-last : (xs : List ℕ) (n : ℕ) → slice_get (xs ++ n ∷ []) (length xs) ≡ Some n
stands-last [] n = refl
stands-last (x ∷ xs) n = stands-last xs n

-- what stands among numbers and one behind them
data Stands (xs : List ℕ) (n k m : ℕ) : Type 0 where
  Before : slice_get xs k ≡ Some m → Stands xs n k m
  Last : k ≡ length xs → m ≡ n → Stands xs n k m

stands-in : (xs : List ℕ) (n k m : ℕ) → slice_get (xs ++ n ∷ []) k ≡ Some m → Stands xs n k m
stands-in [] n zero m stands = Last refl cc
stands-in [] n (suc k) m stands = absurd cc
stands-in (x ∷ xs) n zero m stands = Before stands
stands-in (x ∷ xs) n (suc k) m stands =
    elim (stands-in xs n k m stands) [
      | Before there ↦ Before there
      | Last at same ↦ Last (ap suc at) same
    ]

-- numbers stay where they stand when one more comes
pub stands-more : (numbers : List ℕ) (n k m : ℕ) → slice_get numbers k ≡ Some m
    → slice_get (with_number numbers n) k ≡ Some m
stands-more numbers n k m stands =
    elim (list_any (λ j. j == n) numbers) as (λ b. slice_get (cond b numbers (numbers ++ n ∷ [])) k ≡ Some m) [
      | true ↦ stands
      | false ↦ stands-append numbers (n ∷ []) k m stands
    ]

abbrev one_if_some : Option ℕ → ℕ
one_if_some o = cond (is_some o) 1 0

module _ (places : List (Option ℕ)) (numbers : List ℕ) (n : ℕ) (are : ArePlacesOf places numbers) where
  -- a number with a place came before
  pub known_before : (k : ℕ) → place_in places n ≡ Some k → with_number numbers n ≡ numbers
  known_before k at =
      ap (λ b. cond b numbers (numbers ++ n ∷ [])) (among numbers k n (are.stands n k at))

  -- and one with none comes for the first time
  pub new_now : place_in places n ≡ None → with_number numbers n ≡ numbers ++ n ∷ []
  new_now none =
      let others : All (λ m. (m == n) ≡ false) numbers =
      λ k d within. ne_eqb (get_or numbers k d) n (λ same.
      let stands : slice_get numbers k ≡ Some n = slice_get-get_or numbers k d within ∙ ap Some same in
      let at = are.found n k stands in
      absurd cc) in
      ap (λ b. cond b numbers (numbers ++ n ∷ [])) (list_any_none (λ m. m == n) numbers others)

  -- where a new number gets its place
  abbrev pub grown : List (Option ℕ)
  grown = set places n (Some (length numbers))

  pub grown_places : n < length places → place_in places n ≡ None → ArePlacesOf grown (numbers ++ n ∷ [])
  grown_places within none = record {
    count =
        let one = sum_by-set one_if_some places n (Some (length numbers)) None within in
        let before = ap one_if_some none in
        omega (arith, one, before, are.count, length-append numbers (n ∷ []));
    stands = λ m k at. elim (cases_eq m n) [
      | inl same ↦
          let here : place_in grown n ≡ Some (length numbers) = get_or-set_same places n (Some (length numbers))
          None within in
          let there : place_in grown n ≡ Some k = ap (place_in grown) (sym same) ∙ at in
          let k_is : length numbers ≡ k = cc in
          subst (λ (j : ℕ). slice_get (numbers ++ n ∷ []) j ≡ Some m) k_is
          (stands-last numbers n ∙ ap Some (sym same))
      | inr other ↦
          let old : place_in places m ≡ Some k =
          sym (get_or-set_other places n m (Some (length numbers)) None other) ∙ at in
          stands-append numbers (n ∷ []) k m (are.stands m k old)
    ];
    found = λ m k stands. elim (stands-in numbers n k m stands) [
      | Before there ↦
          let old = are.found m k there in
          elim (cases_eq m n) [
            | inl same ↦
                let both : Some k ≡ None = sym old ∙ ap (place_in places) same ∙ none in
                absurd cc
            | inr other ↦ get_or-set_other places n m (Some (length numbers)) None other ∙ old
          ]
      | Last at same ↦
          ap (place_in grown) same ∙ get_or-set_same places n (Some (length numbers)) None within ∙ ap Some (sym at)
    ];
  }

-- a number among those that aren't another
kept : (x n : ℕ) (xs : List ℕ) → x ≢ n
    → list_any (λ m. m == n) (filter (λ m. not (m == x)) xs) ≡ list_any (λ m. m == n) xs
kept x n [] other = refl
kept x n (y ∷ xs) other =
    let rest = kept x n xs other in
    let ys : List ℕ = filter (λ m. not (m == x)) xs in
    elim (cases_eq y x) [
      | inl same ↦
          let away : (y == x) ≡ true = eq-eqb y x same in
          let not_n : (y == n) ≡ false = ne_eqb y n (λ e. other (sym same ∙ e)) in
          ap (λ b. list_any (λ m. m == n) (cond (not b) (y ∷ ys) ys)) away ∙ rest
          ∙ sym (ap (λ b. b || list_any (λ m. m == n) xs) not_n)
      | inr differs ↦
          let stays : (y == x) ≡ false = ne_eqb y x differs in
          ap (λ b. list_any (λ m. m == n) (cond (not b) (y ∷ ys) ys)) stays
          ∙ ap (λ b. (y == n) || b) rest
    ]

-- the numbers once each, when one more comes
pub first_times-more : (xs : List ℕ) (n : ℕ) → first_times (xs ++ n ∷ []) ≡ with_number (first_times xs) n
first_times-more [] n = refl
first_times-more (x ∷ xs) n =
    let before = first_times-more xs n in
    let others : List ℕ → List ℕ = filter (λ m. not (m == x)) in
    let numbers = first_times xs in
    let has : Bool = list_any (λ m. m == n) numbers in
    ap (λ ys. x ∷ others ys) before
    ∙ elim (cases_eq x n) [
      | inl same ↦
          let gone : (n == x) ≡ true = eq-eqb n x (sym same) in
          let here : (x == n) ≡ true = eq-eqb x n same in
          let left : others (numbers ++ n ∷ []) ≡ others numbers =
          filter-append (λ m. not (m == x)) numbers (n ∷ [])
          ∙ ap (λ b. others numbers ++ cond (not b) (n ∷ []) []) gone ∙ append-nil (others numbers) in
          elim has as (λ b. x ∷ others (cond b numbers (numbers ++ n ∷ [])) ≡ x ∷ others numbers) [
            | true ↦ refl
            | false ↦ ap (λ ys. x ∷ ys) left
          ]
          ∙ sym (ap (λ b. cond (b || list_any (λ m. m == n) (others numbers)) (x ∷ others numbers)
          ((x ∷ others numbers) ++ n ∷ [])) here)
      | inr other ↦
          let stays : (n == x) ≡ false = ne_eqb n x (λ e. other (sym e)) in
          let not_here : (x == n) ≡ false = ne_eqb x n other in
          let more : others (numbers ++ n ∷ []) ≡ others numbers ++ n ∷ [] =
          filter-append (λ m. not (m == x)) numbers (n ∷ [])
          ∙ ap (λ b. others numbers ++ cond (not b) (n ∷ []) []) stays in
          elim has as (λ b. x ∷ others (cond b numbers (numbers ++ n ∷ []))
          ≡ cond b (x ∷ others numbers) ((x ∷ others numbers) ++ n ∷ [])) [
            | true ↦ refl
            | false ↦ ap (λ ys. x ∷ ys) more
          ]
          ∙ sym (ap (λ b. cond b (x ∷ others numbers) ((x ∷ others numbers) ++ n ∷ []))
          (ap (λ b. b || list_any (λ m. m == n) (others numbers)) not_here ∙ kept x n numbers other))
    ]
