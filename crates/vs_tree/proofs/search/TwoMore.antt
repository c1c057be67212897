-- A list in which two neighbours are others.
use Rattle.std.proofs.Common.{◌≡◌, ◌≢◌, ℕ, ◌+◌, ◌<◌, List, length, set, get_or, ◌∙◌, arith, length-set}
use Rattle.std.proofs.lemmas.List.{get_or-set_same, get_or-set_other}

module _ {A : Type 0} (xs : List A) (m : ℕ) (x y d : A) where
  abbrev more : List A
  more = set (set xs m x) (m + 1) y

  -- is as long as before
  pub length-more : length more ≡ length xs
  length-more = length-set (set xs m x) (m + 1) y ∙ length-set xs m x

  -- has the first and the second of them at their places
  pub more-first : m < length xs → get_or more m d ≡ x
  more-first within =
      get_or-set_other (set xs m x) (m + 1) m y d (λ same. omega (arith, same)) ∙ get_or-set_same xs m x d within

  pub more-second : m + 1 < length xs → get_or more (m + 1) d ≡ y
  more-second within =
      get_or-set_same (set xs m x) (m + 1) y d (omega (arith, within, length-set xs m x))

  -- and elsewhere what it had
  pub more-other : (k : ℕ) → k ≢ m → k ≢ m + 1 → get_or more k d ≡ get_or xs k d
  more-other k first second =
      get_or-set_other (set xs m x) (m + 1) k y d second ∙ get_or-set_other xs m k x d first
