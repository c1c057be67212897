-- The sequence of numbers that an instance is made from.
use Rattle.std.proofs.Common.{◌≡◌, ℕ, zero, suc, ◌+◌, ap, ◌∙◌, arith}
use Rattle.vs_make.specs.Generator.{next_number, number_at}

-- going on from a number of the sequence
pub number_at-add : (x k n : ℕ) → number_at (number_at x k) n ≡ number_at x (k + n)
number_at-add x zero n = let same : n ≡ 0 + n = omega arith in ap (number_at x) same
number_at-add x (suc k) n =
    let more : suc (k + n) ≡ suc k + n = omega arith in
    number_at-add (next_number x) k n ∙ ap (number_at x) more
