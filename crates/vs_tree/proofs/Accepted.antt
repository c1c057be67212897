-- The plans that were accepted, and the cheapest of them.
use Rattle.std.specs.List.{All, last_or}
use Rattle.std.proofs.Common.{◌≡◌, ◌⊎◌, ℕ, zero, suc, ◌+◌, ◌-◌, List, [], ◌∷◌, ◌++◌, length, get_or, refl, sym, ap, ◌∙◌, subst, arith, inl, inr, Option, Some, None, ℤ, ◌<ℤ◌, ◌≤ℤ◌, length-append, option_map, unwrap_or, slice_get, Bool, true, false}
use Rattle.std.specs.Prelude.{int_lt}
use Rattle.std.proofs.lemmas.Bool.{cases_lt}
use Rattle.std.proofs.lemmas.Int.{ints}
use Rattle.std.proofs.lemmas.List.Elements.{All-head, All-tail}
use Rattle.std.proofs.lemmas.List.{get_or_append_left, get_or-append-add}
use Rattle.vs_plan.specs.CheckedPlan.{Checked}
use Rattle.vs_prices.specs.declared.bound.Bound.{Bound}
use Rattle.vs_prices.specs.declared.bound.Bound.TheVariants.{AtLeast, NoPlan}
use Rattle.vs_prices.specs.Bounds.{IsBelow}
use Rattle.vs_tree.specs.History.{IsCheaper}
use Rattle.vs_tree.specs.Sound.{EachIsCheaper}

-- the last of a longer list is the one that came
pub last-more : {X : Type 0} (o : Option X) (xs : List X) (x : X) → last_or o (xs ++ x ∷ []) ≡ Some x
last-more o [] x = refl
last-more o (y ∷ ys) x = last-more (Some y) ys x

-- the last of a list is the one at its end
pub last-at : {X : Type 0} (o : Option X) (xs : List X) (k : ℕ) (d : X) → suc k ≡ length xs
    → last_or o xs ≡ Some (get_or xs k d)
last-at o [] k d end = absurd (omega arith)
last-at o (x ∷ []) zero d end = refl
last-at o (x ∷ []) (suc k) d end = absurd (omega arith)
last-at o (x ∷ y ∷ rest) zero d end = absurd (omega arith)
last-at o (x ∷ y ∷ rest) (suc k) d end = last-at (Some x) (y ∷ rest) k d (omega arith)

-- the last of a list is the one before its length
pub last-get : {X : Type 0} (xs : List X) → last_or None xs ≡ slice_get xs (length xs - 1)
last-get {X} [] = refl
last-get {X} (x ∷ xs) = from_first None x xs
  where
    from_first : (o : Option X) (y : X) (ys : List X) → last_or o (y ∷ ys) ≡ slice_get (y ∷ ys) (length (y ∷ ys) - 1)
    from_first o y [] = refl
    from_first o y (z ∷ ys) =
        let here : length (z ∷ ys) - 1 ≡ length ys = omega arith in
        let next : length (y ∷ z ∷ ys) - 1 ≡ suc (length ys) = omega arith in
        from_first (Some y) z ys ∙ ap (slice_get (z ∷ ys)) here ∙ ap (slice_get (y ∷ z ∷ ys)) (sym next)

-- what is true of all of a list is true of its last
pub last-is : {X : Type 0} (P : X → Type 0) (o : Option X) (xs : List X) (x : X) → All P xs
    → ((y : X) → o ≡ Some y → P y)
    → last_or o xs ≡ Some x → P x
last-is P o [] x each first is = first x is
last-is P o (y ∷ ys) x each first is =
    last-is P (Some y) ys x (All-tail P y ys each) (λ z same. subst P (ap (λ (q : Option _). unwrap_or q y) same)
    (All-head P y ys each)) is

-- a cost is less than another that is known, or it isn't
pub cheaper_or_not : (cost : ℤ) (other : Option ℤ) → IsCheaper cost other ⊎ (¬ (IsCheaper cost other))
cheaper_or_not cost None = inl tt
cheaper_or_not cost (Some other) = by_test (int_lt cost other) refl
  where
    less : int_lt cost other ≡ true → cost <ℤ other
    less is = grind (arith, ints)

    not_less : int_lt cost other ≡ false → other ≤ℤ cost
    not_less is = grind (arith, ints)

    by_test : (b : Bool) → int_lt cost other ≡ b → (cost <ℤ other) ⊎ (¬ (cost <ℤ other))
    by_test true is = inl (less is)
    by_test false is = let dear = not_less is in inr (λ cheap. omega (arith, ints, dear, cheap))

abbrev cost_of : Checked → ℤ
cost_of plan = plan.cost

-- a plan that is cheaper than the last makes a longer list in which each is cheaper
pub cheaper-more : (plans : List Checked) (plan : Checked) → EachIsCheaper plans
    → IsCheaper plan.cost (option_map cost_of (last_or None plans)) → EachIsCheaper (plans ++ plan ∷ [])
cheaper-more plans plan each less k d inside =
    let size = length-append plans (plan ∷ []) in
    elim (cases_lt (suc k) (length plans)) [
      | inl before ↦
          let here = get_or_append_left plans (plan ∷ []) d (suc k) before in
          let one_before = get_or_append_left plans (plan ∷ []) d k (omega (arith, before)) in
          rw (here, one_before) (each k d before)
      | inr past ↦
          let end : suc k ≡ length plans = omega (arith, size, past, inside) in
          let at_end : suc k ≡ length plans + 0 = omega (arith, end) in
          let here : get_or (plans ++ plan ∷ []) (suc k) d ≡ plan =
          ap (λ (i : ℕ). get_or (plans ++ plan ∷ []) i d) at_end ∙ get_or-append-add plans (plan ∷ []) 0 d in
          let one_before = get_or_append_left plans (plan ∷ []) d k (omega (arith, end)) in
          let last : IsCheaper plan.cost (Some (get_or plans k d).cost) =
          subst (λ (q : Option Checked). IsCheaper plan.cost (option_map cost_of q))
          (last-at None plans k d end) less in
          rw (here, one_before) last
    ]

-- what is below the cost of the cheaper plan was below what was known
pub below-before : (worth : Bound) (cost : ℤ) (other : Option ℤ) → IsCheaper cost other → IsBelow worth (Some cost)
    → IsBelow worth other
below-before NoPlan cost other less below = absurd below
below-before (AtLeast n) cost None less below = tt
below-before (AtLeast n) cost (Some other) less below = omega (arith, ints, less, below)

-- the plan that came last, by its number
pub get-last : {X : Type 0} (xs : List X) (x : X) (n : ℕ) → n ≡ length xs → slice_get (xs ++ x ∷ []) n ≡ Some x
get-last [] x zero is = refl
get-last [] x (suc n) is = absurd (omega arith)
get-last (y ∷ xs) x zero is = absurd (omega arith)
get-last (y ∷ xs) x (suc n) is = get-last xs x n (omega arith)
