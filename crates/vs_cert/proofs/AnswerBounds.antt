-- The bound of an answer, and its claim, by the worths of its leaves.
use Rattle.std.proofs.Common.{◌≡◌, List, [], ◌∷◌, refl, sym, ap, subst, arith, inl, inr, ◌⊎◌, Option, Some, None, MatchOption, ℤ, ◌≤ℤ◌, ◌<ℤ◌, Bool, true, false, if◌then◌else◌}
use Rattle.std.specs.Prelude.{int_lt}
use Rattle.std.proofs.lemmas.Bool.Decides.{Decides-int_eq}
use Rattle.std.proofs.lemmas.Int.{ints}
use Rattle.vs_prices.specs.Bounds.{IsBelow, IsNoLess}
use Rattle.vs_prices.specs.declared.bound.Bound.{Bound}
use Rattle.vs_prices.specs.declared.bound.Bound.TheVariants.{AtLeast, NoPlan}
use Rattle.vs_prices.specs.Claims.{claim_found}
use Rattle.vs_tree.specs.Report.{bound_of}
use Rattle.vs_prices.specs.declared.claim.Claim.{Claim}
use Rattle.vs_prices.specs.declared.claim.Claim.TheVariants.{Optimal, StillOpen}
use Rattle.vs_cert.specs.Answers.{IsAmong, IsBoundOf, is_below}

-- of two numbers the first is less than the second, or it isn't
pub less_or_not : (x y : ℤ) → (x <ℤ y) ⊎ ((int_lt x y ≡ false) × (y ≤ℤ x))
less_or_not x y = by_test (int_lt x y) refl
  where
    less : int_lt x y ≡ true → x <ℤ y
    less is = grind (arith, ints)

    at_most : int_lt x y ≡ false → y ≤ℤ x
    at_most is = grind (arith, ints)

    by_test : (b : Bool) → int_lt x y ≡ b → (x <ℤ y) ⊎ ((int_lt x y ≡ false) × (y ≤ℤ x))
    by_test true is = inl (less is)
    by_test false is = inr (is, at_most is)

-- a worth that isn't below a cost doesn't pass the test
pub no_below : (cost : Option ℤ) (worth : Bound) → ¬ (IsBelow worth cost) → is_below cost worth ≡ false
no_below None NoPlan not = refl
no_below (Some c) NoPlan not = refl
no_below None (AtLeast n) not = absurd (not tt)
no_below (Some c) (AtLeast n) not = elim (less_or_not n c) [ inl less ↦ absurd (not less) | inr is ↦ is.0 ]

-- each of the worths is no less than the bound
abbrev pub AreNoLess : Bound → List Bound → Type 0
AreNoLess least [] = Unit {0}
AreNoLess least (worth ∷ worths) = IsNoLess worth least × AreNoLess least worths

-- the bound is one of the worths
abbrev pub IsOneOf : Bound → List Bound → Type 0
IsOneOf bound [] = ⊥
IsOneOf bound (worth ∷ worths) = (bound ≡ worth) ⊎ IsOneOf bound worths

-- what is no more than the cost and the worths is no more than what is among them
reaches_all : (cost : Option ℤ) (worths : List Bound) (b m : ℤ) → AreNoLess (AtLeast b) worths
    → IsNoLess (bound_of cost) (AtLeast b) → IsAmong cost worths m → b ≤ℤ m
reaches_all (Some c) [] b m all cost here = omega (arith, ints, cost, here)
reaches_all None [] b m all cost here = absurd here
reaches_all (Some c) (AtLeast w ∷ worths) b m all cost (inl here) = let le = all.0 in omega (arith, ints, le, here)
reaches_all (Some c) (AtLeast w ∷ worths) b m all cost (inr there) = reaches_all (Some c) worths b m all.1 cost there
reaches_all None (AtLeast w ∷ worths) b m all cost (inl here) = let le = all.0 in omega (arith, ints, le, here)
reaches_all None (AtLeast w ∷ worths) b m all cost (inr there) = reaches_all None worths b m all.1 cost there
reaches_all (Some c) (NoPlan ∷ worths) b m all cost there = reaches_all (Some c) worths b m all.1 cost there
reaches_all None (NoPlan ∷ worths) b m all cost there = reaches_all None worths b m all.1 cost there

-- no number is among those that are all no plan
none_among : (cost : Option ℤ) (worths : List Bound) (m : ℤ) → AreNoLess NoPlan worths
    → IsNoLess (bound_of cost) NoPlan → IsAmong cost worths m → ⊥
none_among (Some c) worths m all cost here = absurd cost
none_among None [] m all cost here = absurd here
none_among None (AtLeast w ∷ worths) m all cost here = absurd all.0
none_among None (NoPlan ∷ worths) m all cost here = none_among None worths m all.1 cost here

-- the cost is among them, and so is each worth
pub cost_among : (c : ℤ) (worths : List Bound) → IsAmong (Some c) worths c
cost_among c [] = refl
cost_among c (AtLeast w ∷ worths) = inr (cost_among c worths)
cost_among c (NoPlan ∷ worths) = cost_among c worths

worth_among : (cost : Option ℤ) (worths : List Bound) (b : ℤ) → IsOneOf (AtLeast b) worths → IsAmong cost worths b
worth_among cost [] b is = absurd is
worth_among (Some c) (AtLeast w ∷ worths) b (inl here) = let same : b ≡ w = cc in inl same
worth_among (Some c) (AtLeast w ∷ worths) b (inr there) = inr (worth_among (Some c) worths b there)
worth_among None (AtLeast w ∷ worths) b (inl here) = let same : b ≡ w = cc in inl same
worth_among None (AtLeast w ∷ worths) b (inr there) = inr (worth_among None worths b there)
worth_among cost (NoPlan ∷ worths) b (inl here) = absurd cc
worth_among (Some c) (NoPlan ∷ worths) b (inr there) = worth_among (Some c) worths b there
worth_among None (NoPlan ∷ worths) b (inr there) = worth_among None worths b there

-- the lesser of the cost and of the least worth is the bound
pub lesser_is_bound : (cost : Option ℤ) (worths : List Bound) (bound : Option ℤ) → AreNoLess (bound_of bound) worths
    → IsNoLess (bound_of cost) (bound_of bound)
    → (bound_of bound ≡ bound_of cost) ⊎ IsOneOf (bound_of bound) worths → IsBoundOf cost worths bound
lesser_is_bound cost worths None all low reached = λ n among. none_among cost worths n all low among
lesser_is_bound (Some c) worths (Some b) all low (inl same) =
    let is : b ≡ c = cc in (
      subst (IsAmong (Some c) worths) (sym is) (cost_among c worths),
      λ m among. reaches_all (Some c) worths b m all low among,
    )
lesser_is_bound None worths (Some b) all low (inl same) = absurd cc
lesser_is_bound cost worths (Some b) all low (inr is) =
    (worth_among cost worths b is, λ m among. reaches_all cost worths b m all low among)

found_equal : (c b : ℤ) → b ≡ c → claim_found (Some c) (Some b) ≡ Optimal
found_equal c b same =
    ap {B = Claim} (λ (e : Bool). if e then Optimal else StillOpen) ((Decides-int_eq c b).1 (sym same))

-- a bound that leaves no room for a cheaper plan leaves nothing open
pub not_open : (cost bound : Option ℤ) → IsNoLess (bound_of cost) (bound_of bound)
    → (bound_of bound ≡ bound_of cost) ⊎ (¬ (IsBelow (bound_of bound) cost)) → claim_found cost bound ≡ StillOpen → ⊥
not_open None None low reached still = absurd cc
not_open (Some c) None low reached still = absurd low
not_open None (Some b) low (inl same) still = absurd cc
not_open None (Some b) low (inr not) still = not tt
not_open (Some c) (Some b) low (inl same) still =
    let is : b ≡ c = cc in
    let optimal = found_equal c b is in
    absurd cc
not_open (Some c) (Some b) low (inr not) still =
    elim (less_or_not b c) [
      | inl less ↦ absurd (not less)
      | inr at_least ↦
          let no_less = at_least.1 in
          let is : b ≡ c = omega (arith, ints, low, no_less) in
          let optimal = found_equal c b is in
          absurd cc
    ]

-- where the bound is the cost or reaches the start, it is no less than the one of them
pub reaches_start : (cost : Option ℤ) (b start : ℤ) → (AtLeast b ≡ bound_of cost) ⊎ (start ≤ℤ b)
    → MatchOption cost (start ≤ℤ b) (λ c. (start ≤ℤ b) ⊎ (c ≤ℤ b))
reaches_start None b start (inl same) = absurd cc
reaches_start None b start (inr is) = is
reaches_start (Some c) b start (inl same) =
    let is : b ≡ c = cc in
    inr (omega (arith, ints, is))
reaches_start (Some c) b start (inr is) = inl is
