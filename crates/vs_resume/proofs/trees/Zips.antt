-- What holds of two lists element by element, in the place of an item too.
use Rattle.std.proofs.Common.{ℕ, zero, suc, ◌+◌, List, [], ◌∷◌, ◌++◌, take, drop, ◌≡◌, refl, ap, subst, Some, slice_get}
use Rattle.std.specs.List.{AllZip}
use Rattle.vs_resume.specs.InPlace.{in_place}

module _ {A B : Type 0} (R : A → B → Type 0) where
  pub zip-append : (xs ws : List A) (ys zs : List B) → AllZip R xs ys → AllZip R ws zs
      → AllZip R (xs ++ ws) (ys ++ zs)
  zip-append [] ws [] zs first second = second
  zip-append [] ws (y ∷ ys) zs first second = absurd first
  zip-append (x ∷ xs) ws [] zs first second = absurd first
  zip-append (x ∷ xs) ws (y ∷ ys) zs first second = (first.0, zip-append xs ws ys zs first.1 second)

  zip-take : (k : ℕ) (xs : List A) (ys : List B) → AllZip R xs ys → AllZip R (take k xs) (take k ys)
  zip-take zero xs ys each = tt
  zip-take (suc k) [] [] each = tt
  zip-take (suc k) [] (y ∷ ys) each = absurd each
  zip-take (suc k) (x ∷ xs) [] each = absurd each
  zip-take (suc k) (x ∷ xs) (y ∷ ys) each = (each.0, zip-take k xs ys each.1)

  zip-drop : (k : ℕ) (xs : List A) (ys : List B) → AllZip R xs ys → AllZip R (drop k xs) (drop k ys)
  zip-drop zero xs ys each = each
  zip-drop (suc k) [] [] each = tt
  zip-drop (suc k) [] (y ∷ ys) each = absurd each
  zip-drop (suc k) (x ∷ xs) [] each = absurd each
  zip-drop (suc k) (x ∷ xs) (y ∷ ys) each = zip-drop k xs ys each.1

  -- items that stand in the place of item k
  pub zip-in_place : (k : ℕ) (xs ws : List A) (ys zs : List B) → AllZip R xs ys → AllZip R ws zs
      → AllZip R (in_place xs k ws) (in_place ys k zs)
  zip-in_place k xs ws ys zs all some =
      zip-append (take k xs) (ws ++ drop (k + 1) xs) (take k ys) (zs ++ drop (k + 1) ys) (zip-take k xs ys all)
      (zip-append ws (drop (k + 1) xs) zs (drop (k + 1) ys) some (zip-drop (k + 1) xs ys all))

  -- the items that stand beside the first ones, and those beside the others
  pub record IsCut (xs ws : List A) (ys : List B) : Type 0 where
    pub first : List B
    pub second : List B
    pub both : ys ≡ first ++ second
    pub beside_first : AllZip R xs first
    pub beside_second : AllZip R ws second

  pub zip-cut : (xs ws : List A) (ys : List B) → AllZip R (xs ++ ws) ys → IsCut xs ws ys
  zip-cut [] ws ys each = record { first = []; second = ys; both = refl; beside_first = tt; beside_second = each }
  zip-cut (x ∷ xs) ws [] each = absurd each
  zip-cut (x ∷ xs) ws (y ∷ ys) each =
      let rest = zip-cut xs ws ys each.1 in
      record {
        first = y ∷ rest.first;
        second = rest.second;
        both = ap (λ (l : List B). y ∷ l) rest.both;
        beside_first = (each.0, rest.beside_first);
        beside_second = rest.beside_second;
      }

  -- the items at one place
  pub zip-at : (k : ℕ) (xs : List A) (ys : List B) (x : A) (y : B) → AllZip R xs ys → slice_get xs k ≡ Some x
      → slice_get ys k ≡ Some y → R x y
  zip-at k [] ys x y each left right = absurd cc
  zip-at k (a ∷ xs) [] x y each left right = absurd each
  zip-at zero (a ∷ xs) (b ∷ ys) x y each left right =
      let is : a ≡ x = cc in
      let also : b ≡ y = cc in
      subst (λ (v : A). R v y) is (subst (λ (w : B). R a w) also each.0)
  zip-at (suc k) (a ∷ xs) (b ∷ ys) x y each left right = zip-at k xs ys x y each.1 left right

  -- what stands beside an item
  pub zip-beside : (k : ℕ) (xs : List A) (ys : List B) (y : B) → AllZip R xs ys → slice_get ys k ≡ Some y
      → (x : A) × (slice_get xs k ≡ Some x) × R x y
  zip-beside k [] [] y each right = absurd cc
  zip-beside k [] (b ∷ ys) y each right = absurd each
  zip-beside k (a ∷ xs) [] y each right = absurd each
  zip-beside zero (a ∷ xs) (b ∷ ys) y each right =
      let also : b ≡ y = cc in
      (a, refl, subst (λ (w : B). R a w) also each.0)
  zip-beside (suc k) (a ∷ xs) (b ∷ ys) y each right = zip-beside k xs ys y each.1 right

-- and what follows from it
pub zip-weaker : {A B : Type 0} (R S : A → B → Type 0) → ((x : A) (y : B) → R x y → S x y) → (xs : List A)
    (ys : List B) → AllZip R xs ys → AllZip S xs ys
zip-weaker R S from [] [] each = tt
zip-weaker R S from [] (y ∷ ys) each = absurd each
zip-weaker R S from (x ∷ xs) [] each = absurd each
zip-weaker R S from (x ∷ xs) (y ∷ ys) each = (from x y each.0, zip-weaker R S from xs ys each.1)
