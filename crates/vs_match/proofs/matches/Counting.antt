-- Counts of kinds and of connections, one by one.
use Rattle.std.proofs.Common.{◌≡◌, ℕ, zero, suc, ◌+◌, ◌*◌, ◌≤◌, Bool, cond, List, [], ◌∷◌, length, Option, Some, None, refl, sym, ap, ◌∙◌, arith, add-one}
use Rattle.std.specs.Prelude.{count_by, sum_by, is_some, is_none}
use Rattle.std.specs.List.{range_with_len}
use Rattle.std.proofs.lemmas.List.Sums.{sum_by-append, sum_by-cons}
use Rattle.vs_types.specs.declared.numbers.StopNo.{StopNo}
use Rattle.vs_types.proofs.CallerLemmas.{range_more}
use Rattle.vs_match.specs.declared.event.Point.{Point}
use Rattle.vs_match.specs.Sizes.{stop_points, line_points}

-- one number more is added
pub sum_by-next : (f : ℕ → ℕ) (n : ℕ) → sum_by f (range_with_len 0 (n + 1)) ≡ sum_by f (range_with_len 0 n) + f n
sum_by-next f n =
    ap (sum_by f) (range_more 0 n n (omega arith)) ∙ sum_by-append f (range_with_len 0 n) (n ∷ [])
    ∙ ap (λ (x : ℕ). sum_by f (range_with_len 0 n) + x) (omega arith)

-- one number more is counted, or isn't
pub count_by-next : (p : ℕ → Bool) (n : ℕ)
    → count_by p (range_with_len 0 (n + 1)) ≡ count_by p (range_with_len 0 n) + cond (p n) 1 0
count_by-next p n = sum_by-next (λ k. cond (p k) 1 0) n

-- a sum of numbers that are all at most m
pub sum_by-≤ : (f : ℕ → ℕ) (m n : ℕ) → ((k : ℕ) → f k ≤ m) → sum_by f (range_with_len 0 n) ≤ n * m
sum_by-≤ f m zero each = omega arith
sum_by-≤ f m (suc n) each =
    let up = ap (λ (k : ℕ). sum_by f (range_with_len 0 k)) (sym (add-one n)) in
    omega (arith, up, sum_by-next f n, sum_by-≤ f m n each, each n)

-- each point is at a stop or on the depot line
one_of_both : (o : Option StopNo) → cond (is_some o) 1 0 + cond (is_none o) 1 0 ≡ 1
one_of_both None = refl
one_of_both (Some stop) = refl

pub stops_and_line : (points : List Point) → stop_points points + line_points points ≡ length points
stops_and_line [] = refl
stops_and_line (x ∷ points) =
    omega (
      arith,
      one_of_both x.stop,
      stops_and_line points,
      sum_by-cons (λ (y : Point). cond (is_some y.stop) 1 0) x points,
      sum_by-cons (λ (y : Point). cond (is_none y.stop) 1 0) x points,
    )
