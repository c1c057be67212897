-- The numbers that leaves get, row by row.
use Rattle.std.proofs.Common.{◌≡◌, ℕ, ◌+◌, ◌<◌, ◌≤◌, List, [], ◌∷◌, ◌++◌, length, get_or, set, take, drop, refl, sym, ap, ◌∙◌, arith, append_assoc}
use Rattle.std.proofs.lemmas.List.{drop-set-lt, drop_all, drop_more, take_more, take_more_set}
use Rattle.vs_rows.specs.declared.document.Shape.{Shape}
use Rattle.vs_rows.specs.declared.document.Shape.TheVariants as shape
use Rattle.vs_resume.specs.Outlines.{with_numbers}

-- rows keep the tables that they name where there are no numbers
with_numbers-none : (rows : List Shape) → with_numbers rows [] ≡ rows
with_numbers-none [] = refl
with_numbers-none (shape.Leaf table ∷ rows) = refl
with_numbers-none (shape.Split trip left ∷ rows) =
    ap (λ (rs : List Shape). shape.Split trip left ∷ rs) (with_numbers-none rows)

-- a row that is no leaf gets no number
split_stays : (row : Shape) (rest : List Shape) (numbers : List ℕ) → ((table : ℕ) → row ≡ shape.Leaf table → ⊥)
    → with_numbers (row ∷ rest) numbers ≡ row ∷ with_numbers rest numbers
split_stays (shape.Leaf table) rest numbers no_leaf = absurd (no_leaf table refl)
split_stays (shape.Split trip left) rest numbers no_leaf = refl

-- the rows before have their numbers, and the others get those that are left
abbrev pub AreNumbered : List Shape → List ℕ → List Shape → ℕ → ℕ → Type 0
AreNumbered all numbers rows i k = all ≡ take i rows ++ with_numbers (drop i rows) (drop k numbers)

module _ (all rows : List Shape) (numbers : List ℕ) (i k : ℕ) (row d : Shape) (inside : i < length rows)
    (is : get_or rows i d ≡ row) (so_far : AreNumbered all numbers rows i k) where
  step : (ns ms : List ℕ) (r : Shape) (new : List Shape) → drop k numbers ≡ ns
      → with_numbers (row ∷ drop (i + 1) rows) ns ≡ r ∷ with_numbers (drop (i + 1) rows) ms
      → take (i + 1) new ≡ take i rows ++ r ∷ [] → drop (i + 1) new ≡ drop (i + 1) rows
      → all ≡ take (i + 1) new ++ with_numbers (drop (i + 1) new) ms
  step ns ms r new left numbered first second =
      so_far
      ∙ ap (λ (rs : List Shape). take i rows ++ with_numbers rs (drop k numbers)) (drop_more rows i d inside)
      ∙ ap (λ (x : Shape). take i rows ++ with_numbers (x ∷ drop (i + 1) rows) (drop k numbers)) is
      ∙ ap (λ (xs : List ℕ). take i rows ++ with_numbers (row ∷ drop (i + 1) rows) xs) left
      ∙ ap (λ (rs : List Shape). take i rows ++ rs) numbered
      ∙ sym (append_assoc (take i rows) (r ∷ []) (with_numbers (drop (i + 1) rows) ms))
      ∙ ap (λ (rs : List Shape). rs ++ with_numbers (drop (i + 1) rows) ms) (sym first)
      ∙ ap (λ (rs : List Shape). take (i + 1) new ++ with_numbers rs ms) (sym second)

  same_row : take (i + 1) rows ≡ take i rows ++ row ∷ []
  same_row = take_more rows i d inside ∙ ap (λ (r : Shape). take i rows ++ r ∷ []) is

  pub numbered_leaf : (table : ℕ) → row ≡ shape.Leaf table → k < length numbers
      → AreNumbered all numbers (set rows i (shape.Leaf (get_or numbers k 0))) (i + 1) (k + 1)
  numbered_leaf table leaf some =
      let new = shape.Leaf (get_or numbers k 0) in
      let behind : i < i + 1 = omega arith in
      step (get_or numbers k 0 ∷ drop (k + 1) numbers) (drop (k + 1) numbers) new (set rows i new)
      (drop_more numbers k 0 some)
      (ap (λ (r : Shape). with_numbers (r ∷ drop (i + 1) rows) (get_or numbers k 0 ∷ drop (k + 1) numbers)) leaf)
      (take_more_set rows i new inside) (drop-set-lt (i + 1) rows i new behind)

  pub left_leaf : (table : ℕ) → row ≡ shape.Leaf table → length numbers ≤ k
      → AreNumbered all numbers rows (i + 1) k
  left_leaf table leaf none =
      let empty = drop_all k numbers none in
      step [] (drop k numbers) row rows empty
      (ap (λ (r : Shape). with_numbers (r ∷ drop (i + 1) rows) []) leaf
      ∙ ap (λ (r : Shape). r ∷ drop (i + 1) rows) (sym leaf)
      ∙ ap (λ (rs : List Shape). row ∷ rs) (sym (with_numbers-none (drop (i + 1) rows)))
      ∙ ap (λ (ns : List ℕ). row ∷ with_numbers (drop (i + 1) rows) ns) (sym empty))
      same_row refl

  pub left_split : ((table : ℕ) → row ≡ shape.Leaf table → ⊥) → AreNumbered all numbers rows (i + 1) k
  left_split no_leaf =
      step (drop k numbers) (drop k numbers) row rows refl
      (split_stays row (drop (i + 1) rows) (drop k numbers) no_leaf) same_row refl
