-- Items that are put to a list one after another.
use Rattle.std.proofs.Common.{◌≡◌, ℕ, ◌+◌, ◌<◌, List, [], ◌∷◌, ◌++◌, inl, inr, arith, subst}
use Rattle.std.specs.Prelude.{◌⊎◌, Contains}
use Rattle.std.proofs.lemmas.Bool.{cases_lt}
use Rattle.std.proofs.lemmas.List.Elements.{Contains-push, Contains-push_cases, Contains-append_left}
use Rattle.vs_match.specs.Adds.{Adds}

-- what the numbers below n give together
abbrev pub Upto : {X : Type 0} → (ℕ → X → Type 0) → ℕ → X → Type 0
Upto From n x = (k : ℕ) × (k < n) × From k x

-- an empty list has nothing
pub contains-none : {X : Type 0} (x : X) → Contains [] x → ⊥
contains-none x has = omega (arith, has.1)

module _ {X : Type 0} where
  pub adds-none : (Such : X → Type 0) (xs : List X) → ((x : X) → ¬ (Such x)) → Adds Such xs xs
  adds-none Such xs none x = (λ has. inl has, λ has. elim has [ inl old ↦ old | inr new ↦ absurd (none x new) ])

  pub adds-one : (Such : X → Type 0) (xs : List X) (y : X) → Such y → ((x : X) → Such x → y ≡ x)
      → Adds Such xs (xs ++ y ∷ [])
  adds-one Such xs y is only x = (
    λ has. elim (Contains-push_cases xs y x has) [
      | inl old ↦ inl old
      | inr same ↦
          inr (let P : X → Type 0 = λ z. Such z in subst P same is)
    ],
    λ has. elim has [
      | inl old ↦ Contains-append_left xs (y ∷ []) x old
      | inr new ↦ let P : X → Type 0 = λ z. Contains (xs ++ y ∷ []) z in subst P (only x new) (Contains-push xs y)
    ],
  )

  -- the same items by another name
  pub adds-as : (Such Other : X → Type 0) (xs ys : List X) → Adds Such xs ys → ((x : X) → Such x → Other x)
      → ((x : X) → Other x → Such x) → Adds Other xs ys
  adds-as Such Other xs ys adds to from x = (
    λ has. elim ((adds x).0 has) [ inl old ↦ inl old | inr new ↦ inr (to x new) ],
    λ has. elim has [ inl old ↦ (adds x).1 (inl old) | inr new ↦ (adds x).1 (inr (from x new)) ],
  )

  pub adds-both : (Such Other : X → Type 0) (xs ys zs : List X) → Adds Such xs ys → Adds Other ys zs
      → Adds (λ x. Such x ⊎ Other x) xs zs
  adds-both Such Other xs ys zs first second x = (
    λ has. elim ((second x).0 has) [
      | inl old ↦ elim ((first x).0 old) [ inl older ↦ inl older | inr new ↦ inr (inl new) ]
      | inr new ↦ inr (inr new)
    ],
    λ has. elim has [
      | inl old ↦ (second x).1 (inl ((first x).1 (inl old)))
      | inr new ↦ elim new [ inl a ↦ (second x).1 (inl ((first x).1 (inr a))) | inr b ↦ (second x).1 (inr b) ]
    ],
  )

  upto-more : (From : ℕ → X → Type 0) (n : ℕ) (x : X) → Upto From n x ⊎ From n x → Upto From (n + 1) x
  upto-more From n x (inl old) = (old.0, omega (arith, old.1), old.2)
  upto-more From n x (inr new) = (n, omega arith, new)

  upto-less : (From : ℕ → X → Type 0) (n : ℕ) (x : X) → Upto From (n + 1) x → Upto From n x ⊎ From n x
  upto-less From n x (k, less, is) =
      elim (cases_lt k n) [
        | inl below ↦ inl (k, below, is)
        | inr last ↦
            inr (let P : ℕ → Type 0 = λ m. From m x in let same : k ≡ n = omega (arith, less, last) in subst P same is)
      ]

  -- nothing yet
  pub upto-none : (From : ℕ → X → Type 0) (xs : List X) → Adds (Upto From 0) xs xs
  upto-none From xs = adds-none (Upto From 0) xs (λ x has. omega (arith, has.1))

  -- number n gives all these
  pub upto-many : (From : ℕ → X → Type 0) (n : ℕ) (xs ys zs : List X) → Adds (Upto From n) xs ys
      → Adds (From n) ys zs → Adds (Upto From (n + 1)) xs zs
  upto-many From n xs ys zs before now =
      adds-as (λ x. Upto From n x ⊎ From n x) (Upto From (n + 1)) xs zs
      (adds-both (Upto From n) (From n) xs ys zs before now)
      (λ x. upto-more From n x) (λ x. upto-less From n x)

  -- number n gives one item
  pub upto-one : (From : ℕ → X → Type 0) (n : ℕ) (xs ys : List X) (y : X) → Adds (Upto From n) xs ys → From n y
      → ((x : X) → From n x → y ≡ x)
      → Adds (Upto From (n + 1)) xs (ys ++ y ∷ [])
  upto-one From n xs ys y before is only = upto-many From n xs ys (ys ++ y ∷ []) before (adds-one (From n) ys y is only)

  -- number n gives nothing
  pub upto-skip : (From : ℕ → X → Type 0) (n : ℕ) (xs ys : List X) → Adds (Upto From n) xs ys
      → ((x : X) → ¬ (From n x)) → Adds (Upto From (n + 1)) xs ys
  upto-skip From n xs ys before none = upto-many From n xs ys ys before (adds-none (From n) ys none)
