-- Tables by the places at which leaves first name them.
use Rattle.std.proofs.Common.{◌≡◌, ℕ, zero, suc, ◌≤◌, ◌==◌, ◌&&◌, not, Bool, true, false, cond, List, [], ◌∷◌, ◌++◌, length, filter, append_assoc, refl, sym, ap, ◌∙◌, subst, arith, inl, inr, Some, length-append}
use Rattle.std.specs.List.{slice_get}
use Rattle.std.proofs.lemmas.Bool.{cases_eq, eq-eqb, ne_eqb}
use Rattle.std.proofs.lemmas.List.{append-nil}
use Rattle.std.proofs.lemmas.Option.{slice_get_within}
use Rattle.vs_types.specs.declared.layer_set.LayerSet.{LayerSet}
use Rattle.vs_tree.specs.StateTree.{times}
use Rattle.vs_prices.specs.Tree.{Tree, Leaf, Split, LeafPlace, leaves, right_of, splits, with_set}
use Rattle.vs_tree.proofs.CallerLemmas.{times-cons}
use Rattle.vs_cert.specs.StateDocument.{IsRenumbered, first_times, tables_named}
use Rattle.vs_cert.proofs.states.Numberings.{stands-append, stands-last}
use Rattle.vs_cert.specs.Answers.{AreNamedInOrder}

-- a tree has as many splits where its leaves name their tables otherwise
pub renumbered_splits : (numbers : List ℕ) (t u : Tree) → IsRenumbered numbers t u → splits u ≡ splits t
renumbered_splits numbers (Leaf table) (Leaf place) same = refl
renumbered_splits numbers (Leaf table) (Split also part first second) same = absurd same
renumbered_splits numbers (Split trip left lower upper) (Leaf place) same = absurd same
renumbered_splits numbers (Split trip left lower upper) (Split also part first second) same =
    let l = renumbered_splits numbers lower first same.2 in
    let u = renumbered_splits numbers upper second same.3 in
    omega (arith, l, u)

-- among fewer numbers one stands no more often
times-filter : (n : ℕ) (keep : ℕ → Bool) (xs : List ℕ) → times n (filter keep xs) ≤ times n xs
times-filter n keep [] = omega arith
times-filter n keep (x ∷ xs) =
    let rest = times-filter n keep xs in
    let all = times-cons n x xs in
    let some = times-cons n x (filter keep xs) in
    elim (keep x) as (λ b. times n (cond b (x ∷ filter keep xs) (filter keep xs)) ≤ times n (x ∷ xs)) [
      | true ↦ omega (arith, rest, all, some)
      | false ↦ omega (arith, rest, all)
    ]

-- and one that is left out stands nowhere
times-others : (n : ℕ) (xs : List ℕ) → times n (filter (λ m. not (m == n)) xs) ≡ 0
times-others n [] = refl
times-others n (x ∷ xs) =
    let rest = times-others n xs in
    let ys : List ℕ = filter (λ m. not (m == n)) xs in
    elim (cases_eq x n) [
      | inl same ↦ ap (λ b. times n (cond (not b) (x ∷ ys) ys)) (eq-eqb x n same) ∙ rest
      | inr other ↦
          let none = ap {B = ℕ} (λ (b : Bool). cond b 1 0) (ne_eqb x n other) in
          let here : times n (x ∷ ys) ≡ 0 = omega (arith, times-cons n x ys, none, rest) in
          ap (λ b. times n (cond (not b) (x ∷ ys) ys)) (ne_eqb x n other) ∙ here
    ]

-- each number stands once
times-first_times : (n : ℕ) (xs : List ℕ) → times n (first_times xs) ≤ 1
times-first_times n [] = omega arith
times-first_times n (x ∷ xs) =
    let ys : List ℕ = filter (λ m. not (m == x)) (first_times xs) in
    let all = times-cons n x ys in
    elim (cases_eq x n) [
      | inl same ↦
          let none : times n ys ≡ 0 = ap (λ k. times k ys) (sym same) ∙ times-others x (first_times xs) in
          let one = ap {B = ℕ} (λ (b : Bool). cond b 1 0) (eq-eqb x n same) in
          omega (arith, all, none, one)
      | inr other ↦
          let fewer = times-filter n (λ m. not (m == x)) (first_times xs) in
          let more = times-first_times n xs in
          let none = ap {B = ℕ} (λ (b : Bool). cond b 1 0) (ne_eqb x n other) in
          omega (arith, all, fewer, more, none)
    ]

-- a number that stands at a place stands at least once
stands_once : (xs : List ℕ) (k n : ℕ) → slice_get xs k ≡ Some n → 1 ≤ times n xs
stands_once [] k n at = absurd cc
stands_once (x ∷ xs) zero n at =
    let same : x ≡ n = cc in
    let one = ap {B = ℕ} (λ (b : Bool). cond b 1 0) (eq-eqb x n same) in
    omega (arith, times-cons n x xs, one)
stands_once (x ∷ xs) (suc k) n at = omega (arith, stands_once xs k n at, times-cons n x xs)

-- and one that stands once stands at one place
one_place : (xs : List ℕ) (n i j : ℕ) → times n xs ≤ 1 → slice_get xs i ≡ Some n → slice_get xs j ≡ Some n → i ≡ j
one_place [] n i j once here there = absurd cc
one_place (x ∷ xs) n zero zero once here there = refl
one_place (x ∷ xs) n zero (suc j) once here there =
    let same : x ≡ n = cc in
    let one = ap {B = ℕ} (λ (b : Bool). cond b 1 0) (eq-eqb x n same) in
    absurd (omega (arith, once, times-cons n x xs, one, stands_once xs j n there))
one_place (x ∷ xs) n (suc i) zero once here there =
    let same : x ≡ n = cc in
    let one = ap {B = ℕ} (λ (b : Bool). cond b 1 0) (eq-eqb x n same) in
    absurd (omega (arith, once, times-cons n x xs, one, stands_once xs i n here))
one_place (x ∷ xs) n (suc i) (suc j) once here there =
    ap suc (one_place xs n i j (omega (arith, once, times-cons n x xs)) here there)

-- the leaves name these numbers by their places
abbrev AreNamed : List ℕ → List LeafPlace → List ℕ → Type 0
AreNamed numbers [] [] = Unit {0}
AreNamed numbers (leaf ∷ places) (n ∷ named) = (slice_get numbers leaf.table ≡ Some n) × AreNamed numbers places named
AreNamed numbers [] (n ∷ named) = ⊥
AreNamed numbers (leaf ∷ places) [] = ⊥

named-append : (numbers : List ℕ) (xs ys : List LeafPlace) (ms ns : List ℕ) → AreNamed numbers xs ms
    → AreNamed numbers ys ns → AreNamed numbers (xs ++ ys) (ms ++ ns)
named-append numbers [] ys [] ns first second = second
named-append numbers [] ys (m ∷ ms) ns first second = absurd first
named-append numbers (x ∷ xs) ys [] ns first second = absurd first
named-append numbers (x ∷ xs) ys (m ∷ ms) ns first second =
    (first.0, named-append numbers xs ys ms ns first.1 second)

renumbered_named : (numbers : List ℕ) (t u : Tree) (sets : List LayerSet) → IsRenumbered numbers t u
    → AreNamed numbers (leaves sets u) (tables_named t)
renumbered_named numbers (Leaf table) (Leaf place) sets same = (same, tt)
renumbered_named numbers (Leaf table) (Split also part first second) sets same = absurd same
renumbered_named numbers (Split trip left lower upper) (Leaf place) sets same = absurd same
renumbered_named numbers (Split trip left lower upper) (Split also part first second) sets same =
    named-append numbers (leaves (with_set sets also part) first)
    (leaves (with_set sets also (right_of sets also part)) second) (tables_named lower) (tables_named upper)
    (renumbered_named numbers lower first (with_set sets also part) same.2)
    (renumbered_named numbers upper second (with_set sets also (right_of sets also part)) same.3)

-- one more number is left out
filter-more : (keep : ℕ → Bool) (n : ℕ) (xs : List ℕ)
    → filter keep (filter (λ m. not (m == n)) xs) ≡ filter (λ m. not (m == n) && keep m) xs
filter-more keep n [] = refl
filter-more keep n (x ∷ xs) =
    let rest = filter-more keep n xs in
    let ys : List ℕ = filter (λ m. not (m == n)) xs in
    let zs : List ℕ = filter (λ m. not (m == n) && keep m) xs in
    elim (not (x == n))
    as (λ b. filter keep (cond b (x ∷ ys) ys) ≡ cond (b && keep x) (x ∷ zs) zs) [
      | true ↦
          elim (keep x) as (λ c. cond c (x ∷ filter keep ys) (filter keep ys) ≡ cond c (x ∷ zs) zs) [
            | true ↦ ap (λ ws. x ∷ ws) rest
            | false ↦ rest
          ]
      | false ↦ rest
    ]

-- leaving out a number that is left out already changes nothing
filter-again : (keep : ℕ → Bool) (n : ℕ) → keep n ≡ false → (xs : List ℕ)
    → filter keep (filter (λ m. not (m == n)) xs) ≡ filter keep xs
filter-again keep n out [] = refl
filter-again keep n out (x ∷ xs) =
    let rest = filter-again keep n out xs in
    let ys : List ℕ = filter (λ m. not (m == n)) xs in
    elim (cases_eq x n) [
      | inl same ↦
          let gone : keep x ≡ false = ap keep same ∙ out in
          ap (λ b. filter keep (cond (not b) (x ∷ ys) ys)) (eq-eqb x n same) ∙ rest
          ∙ sym (ap (λ b. cond b (x ∷ filter keep xs) (filter keep xs)) gone)
      | inr other ↦
          ap (λ b. filter keep (cond (not b) (x ∷ ys) ys)) (ne_eqb x n other)
          ∙ ap (λ ws. cond (keep x) (x ∷ ws) ws) rest
    ]

filter-all : (xs : List ℕ) → filter (λ m. true) xs ≡ xs
filter-all [] = refl
filter-all (x ∷ xs) = ap (λ ys. x ∷ ys) (filter-all xs)

module _ (numbers : List ℕ) (once : (n : ℕ) → times n numbers ≤ 1) where
  -- the numbers that are left out were seen
  abbrev AreSeen : List ℕ → (ℕ → Bool) → Type 0
  AreSeen seen keep = (n : ℕ) → keep n ≡ false → (j : ℕ) × (slice_get seen j ≡ Some n)

  seen-more : (seen : List ℕ) (keep : ℕ → Bool) (x : ℕ) → AreSeen seen keep
      → AreSeen (seen ++ x ∷ []) (λ m. not (m == x) && keep m)
  seen-more seen keep x are n out =
      elim (cases_eq n x) [
        | inl same ↦ (length seen, stands-last seen x ∙ ap Some (sym same))
        | inr other ↦
            let still : keep n ≡ false = sym (ap (λ b. not b && keep n) (ne_eqb n x other)) ∙ out in
            let at = are n still in
            (at.0, stands-append seen (x ∷ []) at.0 n at.1)
      ]

  -- the leaves behind name theirs in order, whatever was seen
  abbrev IsRest : List LeafPlace → List ℕ → Type 0
  IsRest places named = (seen : List ℕ) (keep : ℕ → Bool) → AreSeen seen keep
      → numbers ≡ seen ++ filter keep (first_times named) → AreNamedInOrder (length seen) places (length numbers)

  module _ (leaf : LeafPlace) (places : List LeafPlace) (x : ℕ) (named seen : List ℕ) (keep : ℕ → Bool)
      (are : AreSeen seen keep) (split : numbers ≡ seen ++ filter keep (first_times (x ∷ named)))
      (here : slice_get numbers leaf.table ≡ Some x) (again : IsRest places named) where
    abbrev others : List ℕ
    others = filter (λ m. not (m == x)) (first_times named)

    abbrev keep_more : ℕ → Bool
    keep_more m = not (m == x) && keep m

    -- one leaf more, by whether its number comes for the first time
    one_more : (b : Bool) → keep x ≡ b → AreNamedInOrder (length seen) (leaf ∷ places) (length numbers)
    one_more true kept =
        let first : numbers ≡ seen ++ x ∷ filter keep others =
        split ∙ ap (λ b. seen ++ cond b (x ∷ filter keep others) (filter keep others)) kept in
        let next : numbers ≡ (seen ++ x ∷ []) ++ filter keep_more (first_times named) =
        first ∙ ap (λ ys. seen ++ x ∷ ys) (filter-more keep x (first_times named))
        ∙ sym (append_assoc seen (x ∷ []) (filter keep_more (first_times named))) in
        let there : slice_get numbers (length seen) ≡ Some x =
        ap (λ ys. slice_get ys (length seen)) next
        ∙ stands-append (seen ++ x ∷ []) (filter keep_more (first_times named)) (length seen) x (stands-last seen x) in
        let rest = again (seen ++ x ∷ []) keep_more (seen-more seen keep x are) next in
        inr (
          one_place numbers x leaf.table (length seen) (once x) here there,
          subst (λ (k : ℕ). AreNamedInOrder k places (length numbers)) (length-append seen (x ∷ [])) rest,
        )
    one_more false gone =
        let next : numbers ≡ seen ++ filter keep (first_times named) =
        split ∙ ap (λ b. seen ++ cond b (x ∷ filter keep others) (filter keep others)) gone
        ∙ ap (λ ys. seen ++ ys) (filter-again keep x gone (first_times named)) in
        let at = are x gone in
        let there : slice_get numbers at.0 ≡ Some x =
        ap (λ ys. slice_get ys at.0) next ∙ stands-append seen (filter keep (first_times named)) at.0 x at.1 in
        let same = one_place numbers x leaf.table at.0 (once x) here there in
        let within = slice_get_within seen at.0 x at.1 in
        inl (omega (arith, same, within), again seen keep are next)

  in_order : (places : List LeafPlace) (named : List ℕ) → AreNamed numbers places named → IsRest places named
  in_order [] [] names seen keep are split = ap length (split ∙ append-nil seen)
  in_order [] (n ∷ named) names seen keep are split = absurd names
  in_order (leaf ∷ places) [] names seen keep are split = absurd names
  in_order (leaf ∷ places) (x ∷ named) names seen keep are split =
      one_more leaf places x named seen keep are split names.0 (in_order places named names.1) (keep x) refl

-- the leaves name the numbers in their order
pub named_in_order : (t u : Tree) (sets : List LayerSet) → IsRenumbered (first_times (tables_named t)) t u
    → AreNamedInOrder 0 (leaves sets u) (length (first_times (tables_named t)))
named_in_order t u sets same =
    let numbers : List ℕ = first_times (tables_named t) in
    in_order numbers (λ n. times-first_times n (tables_named t)) (leaves sets u) (tables_named t)
    (renumbered_named numbers t u sets same) [] (λ m. true) (λ n out. absurd cc) (sym (filter-all numbers))
