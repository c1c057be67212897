-- One of the rows of numbers replaced by another.
use Rattle.std.proofs.Common.{◌≡◌, ◌≢◌, ℕ, ◌+◌, ◌-◌, ◌*◌, ◌<◌, ◌≤◌, List, ◌++◌, length, take, drop, get_or, sym, ap, ◌∙◌, inl, inr, arith, length-append, length-drop, ℤ, pos}
use Rattle.std.specs.Prelude.{slice_range}
use Rattle.std.specs.List.{All, splice}
use Rattle.std.proofs.Math.Seq.{take-append_seam, drop-append_seam}
use Rattle.std.proofs.lemmas.Bool.{cases_lt}
use Rattle.std.proofs.lemmas.List.{ext_get_or, get_or-append-add, get_or_append_left, get_or-drop, get_or-take, length-take-le, take-append-drop, drop-drop}
use Rattle.std.proofs.lemmas.List.Elements.{All-append, All-drop, All-take}
use Rattle.vs_types.proofs.CallerLemmas.{row_inside}
use Rattle.vs_multi.specs.Exchanges.{row_of, with_row}

module _ (xs given : List ℤ) (a : ℕ) (inside : a + length given ≤ length xs) where
  abbrev replaced : List ℤ
  replaced = splice xs a (a + length given) given

  front : length (take a xs) ≡ a
  front = length-take-le a xs (omega arith)

  size : length replaced ≡ length xs
  size =
      omega (
        arith,
        front,
        length-append (take a xs) (given ++ drop (a + length given) xs),
        length-append given (drop (a + length given) xs),
        length-drop (a + length given) xs,
      )

  before : (j : ℕ) (d : ℤ) → j < a → get_or replaced j d ≡ get_or xs j d
  before j d less =
      get_or_append_left (take a xs) (given ++ drop (a + length given) xs) d j (omega (arith, front))
      ∙ get_or-take a xs j d less

  behind : (j : ℕ) (d : ℤ) → get_or replaced (a + length given + j) d ≡ get_or xs (a + length given + j) d
  behind j d =
      let place : a + length given + j ≡ length (take a xs) + (length given + j) = omega (arith, front) in
      ap (λ (k : ℕ). get_or replaced k d) place
      ∙ get_or-append-add (take a xs) (given ++ drop (a + length given) xs) (length given + j) d
      ∙ get_or-append-add given (drop (a + length given) xs) j d
      ∙ get_or-drop (a + length given) xs j d

  after : (j : ℕ) (d : ℤ) → a + length given ≤ j → get_or replaced j d ≡ get_or xs j d
  after j d more =
      let place : a + length given + (j - (a + length given)) ≡ j = omega arith in
      sym (ap (λ (k : ℕ). get_or replaced k d) place) ∙ behind (j - (a + length given)) d
      ∙ ap (λ (k : ℕ). get_or xs k d) place

  all : (P : ℤ → Type 0) → All P xs → All P given → All P replaced
  all P each here =
      All-append P (take a xs) (given ++ drop (a + length given) xs) (All-take P a xs each)
      (All-append P given (drop (a + length given) xs) here (All-drop P (a + length given) xs each))

  -- what was there put back
  back : splice replaced a (a + length given) (slice_range xs a (a + length given)) ≡ xs
  back =
      let there = take a xs in
      let rest = drop (a + length given) xs in
      let same_front : take a replaced ≡ there =
      ap (λ (k : ℕ). take k replaced) (sym front) ∙ take-append_seam there (given ++ rest) in
      let past : drop a replaced ≡ given ++ rest =
      ap (λ (k : ℕ). drop k replaced) (sym front) ∙ drop-append_seam there (given ++ rest) in
      let same_rest : drop (a + length given) replaced ≡ rest =
      sym (drop-drop (length given) a replaced) ∙ ap (drop (length given)) past ∙ drop-append_seam given rest in
      let width : a + length given - a ≡ length given = omega arith in
      let middle : slice_range xs a (a + length given) ++ rest ≡ drop a xs =
      ap (λ (k : ℕ). take k (drop a xs) ++ rest) width
      ∙ ap (λ (ys : List ℤ). take (length given) (drop a xs) ++ ys) (sym (drop-drop (length given) a xs))
      ∙ take-append-drop (length given) (drop a xs) in
      ap (λ (ys : List ℤ). ys ++ (slice_range xs a (a + length given) ++ drop (a + length given) replaced)) same_front
      ∙ ap (λ (ys : List ℤ). there ++ (slice_range xs a (a + length given) ++ ys)) same_rest
      ∙ ap (λ (ys : List ℤ). there ++ ys) middle ∙ take-append-drop a xs

-- a row of numbers, place by place
row_at : (n row : ℕ) (xs : List ℤ) (i : ℕ) (d : ℤ) → i < n → get_or (row_of n row xs) i d ≡ get_or xs (row * n + i) d
row_at n row xs i d within =
    get_or-take (row * n + n - row * n) (drop (row * n) xs) i d (omega arith) ∙ get_or-drop (row * n) xs i d

-- a row has so many numbers
pub length-row : (n row : ℕ) (xs : List ℤ) → row * n + n ≤ length xs → length (row_of n row xs) ≡ n
length-row n row xs inside =
    let width : row * n + n - row * n ≡ n = omega arith in
    ap (λ (k : ℕ). length (take k (drop (row * n) xs))) width
    ∙ length-take-le n (drop (row * n) xs) (omega (arith, length-drop (row * n) xs))

-- what holds of all numbers holds of those of a row
pub All-row : (P : ℤ → Type 0) (n row : ℕ) (xs : List ℤ) → All P xs → All P (row_of n row xs)
All-row P n row xs each =
    All-take P (row * n + n - row * n) (drop (row * n) xs) (All-drop P (row * n) xs each)

module _ (n row rows : ℕ) (xs given : List ℤ) (less : row < rows) (all_rows : length xs ≡ rows * n)
    (width : length given ≡ n) where
  inside_by_given : row * length given + length given ≤ length xs
  inside_by_given =
      let wide = ap (λ (k : ℕ). row * k) width in
      omega (arith, row_inside n row rows less, all_rows, wide, width)

  -- there are as many numbers as before
  pub length-with_row : length (with_row row given xs) ≡ length xs
  length-with_row = size xs given (row * length given) inside_by_given

  -- what holds of the numbers and of the new row holds of all
  pub All-with_row : (P : ℤ → Type 0) → All P xs → All P given → All P (with_row row given xs)
  All-with_row = all xs given (row * length given) inside_by_given

  -- the row that was there put back
  pub with_row-back : with_row row (row_of n row xs) (with_row row given xs) ≡ xs
  with_row-back =
      let same : length (row_of n row xs) ≡ length given =
      length-row n row xs (omega (arith, row_inside n row rows less, all_rows)) ∙ sym width in
      let row_is : row_of n row xs ≡ row_of (length given) row xs = ap (λ (k : ℕ). row_of k row xs) (sym width) in
      ap (λ (k : ℕ). splice (with_row row given xs) (row * k) (row * k + k) (row_of n row xs)) same
      ∙ ap (λ (ys : List ℤ). splice (with_row row given xs) (row * length given)
      (row * length given + length given) ys) row_is
      ∙ back xs given (row * length given) inside_by_given

  same_place : (other i : ℕ) (d : ℤ) → other ≢ row → i < n
      → get_or (with_row row given xs) (other * n + i) d ≡ get_or xs (other * n + i) d
  same_place other i d apart within =
      let wide = ap (λ (k : ℕ). row * k) width in
      elim (cases_lt other row) [
        | inl lower ↦
            before xs given (row * length given) inside_by_given (other * n + i) d
            (omega (arith, row_inside n other row lower, wide))
        | inr upper ↦
            after xs given (row * length given) inside_by_given (other * n + i) d
            (omega (arith, row_inside n row other (omega arith), wide, width))
      ]

  -- the other rows stay as they were
  pub other_row : (other : ℕ) → other < rows → other ≢ row → row_of n other (with_row row given xs) ≡ row_of n other xs
  other_row other within apart =
      let long : length (row_of n other (with_row row given xs)) ≡ n =
      length-row n other (with_row row given xs)
      (omega (arith, row_inside n other rows within, all_rows, length-with_row)) in
      let short : length (row_of n other xs) ≡ n =
      length-row n other xs (omega (arith, row_inside n other rows within, all_rows)) in
      ext_get_or (pos 0) (row_of n other (with_row row given xs)) (row_of n other xs)
      (long ∙ sym short)
      (λ i below.
      let narrow : i < n = omega (arith, below, long) in
      row_at n other (with_row row given xs) i _ narrow ∙ same_place other i _ apart narrow
      ∙ sym (row_at n other xs i _ narrow))
