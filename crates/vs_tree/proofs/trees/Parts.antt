-- The spots of leaves from left to right, where one of them was split.
use Rattle.std.proofs.Common.{◌≡◌, ◌≢◌, ℕ, ◌+◌, ◌*◌, ◌==◌, Bool, cond, List, [], ◌∷◌, ◌++◌, append_assoc, refl, sym, ap, ◌∙◌, arith, inl, inr}
use Rattle.std.proofs.lemmas.Bool.{cases_eq, eq-eqb, ne_eqb}
use Rattle.std.proofs.lemmas.List.Sums.{sum_by-append, sum_by-cons}
use Rattle.vs_tree.specs.StateTree.{times}

-- in place of spot k there are two, n and the next
abbrev pub parts_of : ℕ → ℕ → ℕ → List ℕ
parts_of k n j = cond (j == k) (n ∷ (n + 1) ∷ []) (j ∷ [])

abbrev pub parted : ℕ → ℕ → List ℕ → List ℕ
parted k n [] = []
parted k n (j ∷ spots) = parts_of k n j ++ parted k n spots

pub parted-append : (k n : ℕ) (xs ys : List ℕ) → parted k n (xs ++ ys) ≡ parted k n xs ++ parted k n ys
parted-append k n [] ys = refl
parted-append k n (j ∷ xs) ys =
    ap (λ (rest : List ℕ). parts_of k n j ++ rest) (parted-append k n xs ys)
    ∙ sym (append_assoc (parts_of k n j) (parted k n xs) (parted k n ys))

-- the split spot gives two, and any other itself
pub parts-split : (k n j : ℕ) → j ≡ k → parts_of k n j ≡ n ∷ (n + 1) ∷ []
parts-split k n j same = ap (λ (b : Bool). cond b (n ∷ (n + 1) ∷ []) (j ∷ [])) (eq-eqb j k same)

pub parts-other : (k n j : ℕ) → j ≢ k → parts_of k n j ≡ j ∷ []
parts-other k n j other = ap (λ (b : Bool). cond b (n ∷ (n + 1) ∷ []) (j ∷ [])) (ne_eqb j k other)

pub times-append : (m : ℕ) (xs ys : List ℕ) → times m (xs ++ ys) ≡ times m xs + times m ys
times-append m xs ys = sum_by-append (λ (j : ℕ). cond (j == m) 1 0) xs ys

pub times-cons : (m j : ℕ) (xs : List ℕ) → times m (j ∷ xs) ≡ cond (j == m) 1 0 + times m xs
times-cons m j xs = sum_by-cons (λ (j : ℕ). cond (j == m) 1 0) j xs

-- a spot that isn't split stands as often as before, and a new one as often as the split one did
module _ (m k n : ℕ) (other : m ≢ k) where
  pub times-parted : (xs : List ℕ)
      → times m (parted k n xs) ≡ times m xs + times k xs * times m (n ∷ (n + 1) ∷ [])
  times-parted [] = omega arith
  times-parted (j ∷ xs) =
      let more = times-parted xs in
      let both = times-append m (parts_of k n j) (parted k n xs) in
      let first = times-cons m j xs in
      let split = times-cons k j xs in
      elim (cases_eq j k) [
        | inl same ↦
            let parts = ap (λ (ys : List ℕ). times m ys) (parts-split k n j same) in
            let here = ap {B = ℕ} (λ (b : Bool). cond b 1 0) (eq-eqb j k same) in
            let not = ap {B = ℕ} (λ (b : Bool). cond b 1 0) (ne_eqb j m (λ is. other (sym is ∙ same))) in
            let one : times k (j ∷ xs) ≡ 1 + times k xs = omega (arith, split, here) in
            let product = ap (λ (c : ℕ). c * times m (n ∷ (n + 1) ∷ [])) one in
            omega (arith, more, both, first, parts, not, product)
        | inr apart ↦
            let parts = ap (λ (ys : List ℕ). times m ys) (parts-other k n j apart) in
            let one = times-cons m j [] in
            let here = ap {B = ℕ} (λ (b : Bool). cond b 1 0) (ne_eqb j k apart) in
            let none : times k (j ∷ xs) ≡ times k xs = omega (arith, split, here) in
            let product = ap (λ (c : ℕ). c * times m (n ∷ (n + 1) ∷ [])) none in
            omega (arith, more, both, first, parts, one, product)
      ]

-- the split spot is gone
pub times-split : (k n : ℕ) → k ≢ n → k ≢ n + 1 → (xs : List ℕ) → times k (parted k n xs) ≡ 0
times-split k n lower upper [] = refl
times-split k n lower upper (j ∷ xs) =
    let more = times-split k n lower upper xs in
    let both = times-append k (parts_of k n j) (parted k n xs) in
    elim (cases_eq j k) [
      | inl same ↦
          let parts = ap (λ (ys : List ℕ). times k ys) (parts-split k n j same) in
          let first = times-cons k n ((n + 1) ∷ []) in
          let second = times-cons k (n + 1) [] in
          let a = ap {B = ℕ} (λ (b : Bool). cond b 1 0) (ne_eqb n k (λ is. lower (sym is))) in
          let b = ap {B = ℕ} (λ (b : Bool). cond b 1 0) (ne_eqb (n + 1) k (λ is. upper (sym is))) in
          omega (arith, more, both, parts, first, second, a, b)
      | inr apart ↦
          let parts = ap (λ (ys : List ℕ). times k ys) (parts-other k n j apart) in
          let one = times-cons k j [] in
          let a = ap {B = ℕ} (λ (b : Bool). cond b 1 0) (ne_eqb j k apart) in
          omega (arith, more, both, parts, one, a)
    ]
