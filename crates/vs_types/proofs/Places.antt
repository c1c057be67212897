-- Lists that are filled place by place, and rows that lie one behind another.
use Rattle.std.proofs.Common.{◌≢◌, ℕ, ◌+◌, ◌*◌, ◌<◌, ◌≤◌, List, length, get_or, set, below_more, sym, subst, arith, get_or-set_same, get_or-set_other}
use Rattle.std.proofs.Math.Nat.{add-mul}
use Rattle.std.proofs.lemmas.Nat.{mul-le}

-- what holds below a place holds below the next one, once that place is filled so that it holds there
pub place_filled : {A : Type 0} (d : A) (P : ℕ → A → Type 0) (xs : List A) (n : ℕ) (x : A) → n < length xs
    → ((j : ℕ) → j < n → P j (get_or xs j d)) → P n x
    → (j : ℕ) → j < n + 1 → P j (get_or (set xs n x) j d)
place_filled {A} d P xs n x inside before here =
    below_more (λ j. P j (get_or (set xs n x) j d)) n
    (λ j below.
    let apart : j ≢ n = λ same. omega arith in
    subst (λ (z : A). P j z) (sym (get_or-set_other xs n j x d apart)) (before j below))
    (subst (λ (z : A). P n z) (sym (get_or-set_same xs n x d inside)) here)

-- a row lies within so many rows
pub row_inside : (n row rows : ℕ) → row < rows → row * n + n ≤ rows * n
row_inside n row rows less = omega (arith, mul-le (row + 1) n rows n (omega arith) (omega arith), add-mul row 1 n)
