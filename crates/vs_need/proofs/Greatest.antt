-- The greatest numbers of sets that are put together, cut or moved.
use Rattle.std.proofs.Common.{◌≡◌, true, false, ◌⊎◌, inl, inr, cond, Option, Some, None, refl, subst, arith, ℤ, ◌+ℤ◌, ◌-ℤ◌, ◌≤ℤ◌}
use Rattle.std.specs.Prelude.{int_lt, option_map}
use Rattle.std.proofs.lemmas.Int.{ints, clamps}
use Rattle.vs_need.specs.Greatest.{IsGreatest, greater_of}

-- of two sets together it is the greater of the two
pub greatest-both : (A B C : ℤ → Type 0) (a b : Option ℤ) → IsGreatest A a → IsGreatest B b
    → ((x : ℤ) → C x → A x ⊎ B x) → ((x : ℤ) → A x → C x) → ((x : ℤ) → B x → C x) → IsGreatest C (greater_of a b)
greatest-both A B C None None is is' split left right =
    λ x c. elim (split x c) [ inl h ↦ is x h | inr h ↦ is' x h ]
greatest-both A B C None (Some y) is is' split left right =
    (right y is'.0, λ x c. elim (split x c) [ inl h ↦ absurd (is x h) | inr h ↦ is'.1 x h ])
greatest-both A B C (Some y) None is is' split left right =
    (left y is.0, λ x c. elim (split x c) [ inl h ↦ is.1 x h | inr h ↦ absurd (is' x h) ])
greatest-both A B C (Some y) (Some z) is is' split left right = (
  elim (int_lt z y) as (λ b. C (cond b y z)) [ true ↦ left y is.0 | false ↦ right z is'.0 ],
  λ x c. elim (split x c) [
    | inl h ↦ (let less = is.1 x h in omega (arith, ints, clamps))
    | inr h ↦ (let less = is'.1 x h in omega (arith, ints, clamps))
  ],
)

-- of a part that has for each number of the whole one that is no less it is the same
pub greatest-part : (A B : ℤ → Type 0) (a : Option ℤ) → IsGreatest A a → ((x : ℤ) → B x → A x)
    → ((x : ℤ) → A x → (y : ℤ) × B y × (x ≤ℤ y)) → IsGreatest B a
greatest-part A B None is part over = λ x b. is x (part x b)
greatest-part A B (Some c) is part over =
    let o : (y : ℤ) × B y × (c ≤ℤ y) = over c is.0 in
    let less = is.1 o.0 (part o.0 o.1) in
    let more = o.2 in
    let same : o.0 ≡ c = omega (arith, ints) in
    (subst B same o.1, λ x b. is.1 x (part x b))

-- of the same numbers it is the same
pub greatest-same : (A B : ℤ → Type 0) (a : Option ℤ) → IsGreatest A a → ((x : ℤ) → A x → B x)
    → ((x : ℤ) → B x → A x) → IsGreatest B a
greatest-same A B None is there back = λ x b. is x (back x b)
greatest-same A B (Some c) is there back = (there c is.0, λ x b. is.1 x (back x b))

-- of numbers that are all less by f it is less by f
pub greatest-less : (A : ℤ → Type 0) (a : Option ℤ) (f : ℤ) → IsGreatest A a
    → IsGreatest (λ x. A (x +ℤ f)) (option_map (λ y. y -ℤ f) a)
greatest-less A None f is = λ x h. is (x +ℤ f) h
greatest-less A (Some c) f is =
    let same : c ≡ (c -ℤ f) +ℤ f = omega (arith, ints) in
    (subst A same is.0, λ x h. let less = is.1 (x +ℤ f) h in omega (arith, ints))

-- of one number, if it is there, it is that one
pub greatest-one : (a : Option ℤ) → IsGreatest (λ x. a ≡ Some x) a
greatest-one None = λ x e. cc
greatest-one (Some c) = (refl, λ x e. let same : c ≡ x = cc in omega (arith, ints))
