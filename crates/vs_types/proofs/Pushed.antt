-- A list with one more at its end.
use Rattle.std.proofs.Common.{◌≡◌, ℕ, ◌+◌, ◌<◌, ◌∙◌, List, [], ◌∷◌, ◌++◌, length, get_or, below_more, ap, sym, subst, arith, length-append}
use Rattle.std.proofs.Math.ListN.{get_or-append}
use Rattle.std.proofs.lemmas.List.{get_or_push}

-- so many elements, each of which is what it should be at its place
pub record AreSoFar {X : Type 0} (blank : X) (Is : ℕ → X → Type 0) (xs : List X) (count : ℕ) : Type 0 where
  pub size : length xs ≡ count
  pub each : (v : ℕ) → v < count → Is v (get_or xs v blank)

-- one more that is what it should be
pub pushed-more : {X : Type 0} (blank : X) (Is : ℕ → X → Type 0) (old new : List X) (count : ℕ) (x : X)
    → new ≡ old ++ x ∷ [] → AreSoFar blank Is old count → Is count x → AreSoFar blank Is new (count + 1)
pushed-more {X} blank Is old new count x pushed so_far here = record {
  size = ap (λ (xs : List X). length xs) pushed ∙ omega (arith, length-append old (x ∷ []), so_far.size);
  each = below_more (λ v. Is v (get_or new v blank)) count
      (λ v below.
      let same : get_or new v blank ≡ get_or old v blank =
      ap (λ (xs : List X). get_or xs v blank) pushed
      ∙ get_or-append old (x ∷ []) blank v (omega (arith, below, so_far.size)) in
      subst (λ (z : X). Is v z) (sym same) (so_far.each v below))
      (let last : get_or new count blank ≡ x =
      ap (λ (xs : List X). get_or xs count blank) pushed ∙ get_or_push old x blank count so_far.size in
      subst (λ (z : X). Is count z) (sym last) here);
}
