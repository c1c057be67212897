-- How many of the numbers below a bound are such.
use Rattle.std.proofs.Common.{ℕ, zero, suc, ◌<◌, ◌≤◌, inl, inr, arith}
use Rattle.vs_multi.specs.Rounds.{IsCountBelow}

-- no more than there are numbers
pub count_le : (Such : ℕ → Type 0) (m n : ℕ) → IsCountBelow Such m n → n ≤ m
count_le Such zero n is = omega arith
count_le Such (suc m) n (inl (none, rest)) = let le = count_le Such m n rest in omega arith
count_le Such (suc m) n (inr (some, (k, one_more, rest))) = let le = count_le Such m k rest in omega arith

-- as many where the same numbers are such
pub count_same : (Such So : ℕ → Type 0) (m n : ℕ) → ((k : ℕ) → k < m → Such k → So k)
    → ((k : ℕ) → k < m → So k → Such k) → IsCountBelow Such m n → IsCountBelow So m n
count_same Such So zero n there back is = is
count_same Such So (suc m) n there back (inl (none, rest)) =
    inl (
      (λ so. none (back m (omega arith) so)),
      count_same Such So m n (λ k less. there k (omega arith)) (λ k less. back k (omega arith)) rest,
    )
count_same Such So (suc m) n there back (inr (some, (k, one_more, rest))) =
    inr (
      there m (omega arith) some,
      (k, one_more, count_same Such So m k (λ j less. there j (omega arith)) (λ j less. back j (omega arith)) rest),
    )
