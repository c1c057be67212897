-- A value in 1/1000 of a unit, rounded up to whole units.
use Rattle.std.proofs.Common.{◌≡◌, ◌<◌, refl, sym, subst, Bool, true, false, cond, arith, lit<, FitsSigned, to_z, of_z, ℤ, pos, negsuc, ◌+ℤ◌, ◌*ℤ◌, ◌≤ℤ◌, ◌<ℤ◌}
use Rattle.std.specs.Prelude.{int_div, int_lt, int_rem, unsigned_abs}
use Rattle.std.proofs.lemmas.Int.{ints, to_z-of_z, quot-rem, rem_below, quot_is, rem_is, quot_fits}
use Rattle.vs_prices.specs.Worth.{IsRoundedUp, rounded_up}
use lib.Signed.{lt_z, quot_z, rem_z}
use mir.Syntax.{w128}

between_abs : (r : ℤ) → unsigned_abs r < 1000 → (negsuc 999 <ℤ r) × (r <ℤ pos 1000)
between_abs (pos n) h = (omega (arith, ints), omega (arith, ints))
between_abs (negsuc n) h = (omega (arith, ints), omega (arith, ints))

up_by_parts : (value q r : ℤ) → q *ℤ pos 1000 +ℤ r ≡ value → pos 0 <ℤ r → r <ℤ pos 1000 → IsRoundedUp value (q +ℤ pos 1)
up_by_parts value q r e some below = record {
  reaches = omega (arith, ints);
  least = λ m h. omega (arith, ints);
}

down_by_parts : (value q r : ℤ) → q *ℤ pos 1000 +ℤ r ≡ value → r ≤ℤ pos 0 → negsuc 999 <ℤ r → IsRoundedUp value q
down_by_parts value q r e none above = record {
  reaches = omega (arith, ints);
  least = λ m h. omega (arith, ints);
}

-- a rest above 0 takes the next whole unit
pub IsRoundedUp-next : (value : ℤ) → pos 0 <ℤ int_rem value (pos 1000)
    → IsRoundedUp value (int_div value (pos 1000) +ℤ pos 1)
IsRoundedUp-next value some =
    up_by_parts value (int_div value (pos 1000)) (int_rem value (pos 1000)) (quot-rem value (pos 1000)) some
    (between_abs (int_rem value (pos 1000)) (rem_below value (pos 1000) (lit< tt))).1

pub IsRoundedUp-whole : (value : ℤ) → int_rem value (pos 1000) ≤ℤ pos 0 → IsRoundedUp value (int_div value (pos 1000))
IsRoundedUp-whole value none =
    down_by_parts value (int_div value (pos 1000)) (int_rem value (pos 1000)) (quot-rem value (pos 1000)) none
    (between_abs (int_rem value (pos 1000)) (rem_below value (pos 1000) (lit< tt))).0

above_zero : (r : ℤ) → lt_z (pos 0) r ≡ true → pos 0 <ℤ r
above_zero r h = grind (arith, ints)

not_above_zero : (r : ℤ) → lt_z (pos 0) r ≡ false → r ≤ℤ pos 0
not_above_zero r h = grind (arith, ints)

-- either way it is the least whole number of units
pub rounded_up-IsRoundedUp : (value : ℤ) → IsRoundedUp value (rounded_up value)
rounded_up-IsRoundedUp value = by_rest (int_lt (pos 0) (int_rem value (pos 1000))) refl
  where
    by_rest : (b : Bool) → int_lt (pos 0) (int_rem value (pos 1000)) ≡ b
        → IsRoundedUp value (cond b (int_div value (pos 1000) +ℤ pos 1) (int_div value (pos 1000)))
    by_rest true some = IsRoundedUp-next value (above_zero (int_rem value (pos 1000)) some)
    by_rest false none = IsRoundedUp-whole value (not_above_zero (int_rem value (pos 1000)) none)

scale_fits : FitsSigned w128 (pos 1000)
scale_fits = omega (arith, ints)

scale_above : pos 0 <ℤ pos 1000
scale_above = omega (arith, ints)

next_fits : (v : ℤ) → FitsSigned w128 v → FitsSigned w128 (int_div v (pos 1000) +ℤ pos 1)
next_fits (pos n) f = omega (arith, ints)
next_fits (negsuc n) f = omega (arith, ints)

-- what the code divides
abbrev quotient : ℤ → ℤ → ℤ
quotient v s = to_z w128 (of_z w128 (quot_z (to_z w128 (of_z w128 v)) (to_z w128 (of_z w128 s))))

abbrev rest : ℤ → ℤ → ℤ
rest v s = to_z w128 (of_z w128 (rem_z (to_z w128 (of_z w128 v)) (to_z w128 (of_z w128 s))))

quotient_is : (v : ℤ) → FitsSigned w128 v → quotient v (pos 1000) ≡ int_div v (pos 1000)
quotient_is v f = quot_is w128 v (pos 1000) f scale_fits (quot_fits w128 v (pos 1000) f scale_above)

rest_is : (v : ℤ) → FitsSigned w128 v → rest v (pos 1000) ≡ int_rem v (pos 1000)
rest_is v f = rem_is w128 v (pos 1000) f scale_fits

next_at_scale : (v : ℤ) → FitsSigned w128 v → lt_z (pos 0) (rest v (pos 1000)) ≡ true
    → IsRoundedUp v (to_z w128 (of_z w128 (quotient v (pos 1000) +ℤ pos 1)))
next_at_scale v f h =
    let g = next_fits v f in
    let up = IsRoundedUp-next v
    (above_zero (int_rem v (pos 1000)) (subst (λ r. lt_z (pos 0) r ≡ true) (rest_is v f) h)) in
    let same : to_z w128 (of_z w128 (int_div v (pos 1000) +ℤ pos 1)) ≡ int_div v (pos 1000) +ℤ pos 1 =
    to_z-of_z w128 (int_div v (pos 1000) +ℤ pos 1) g in
    subst (λ q. IsRoundedUp v (to_z w128 (of_z w128 (q +ℤ pos 1)))) (sym (quotient_is v f))
    (subst (IsRoundedUp v) (sym same) up)

whole_at_scale : (v : ℤ) → FitsSigned w128 v → lt_z (pos 0) (rest v (pos 1000)) ≡ false
    → IsRoundedUp v (quotient v (pos 1000))
whole_at_scale v f h =
    let whole =
    IsRoundedUp-whole v
    (not_above_zero (int_rem v (pos 1000)) (subst (λ r. lt_z (pos 0) r ≡ false) (rest_is v f) h)) in
    subst (IsRoundedUp v) (sym (quotient_is v f)) whole

pub next_rounded : (v s : ℤ) → FitsSigned w128 v → s ≡ pos 1000
    → lt_z (pos 0) (to_z w128 (of_z w128 (rem_z (to_z w128 (of_z w128 v)) (to_z w128 (of_z w128 s))))) ≡ true
    → IsRoundedUp v
    (to_z w128
    (of_z w128 (to_z w128 (of_z w128 (quot_z (to_z w128 (of_z w128 v)) (to_z w128 (of_z w128 s)))) +ℤ pos 1)))
next_rounded v s f e h =
    subst (λ s. lt_z (pos 0) (rest v s) ≡ true → IsRoundedUp v (to_z w128 (of_z w128 (quotient v s +ℤ pos 1))))
    (sym e) (next_at_scale v f) h

pub whole_rounded : (v s : ℤ) → FitsSigned w128 v → s ≡ pos 1000
    → lt_z (pos 0) (to_z w128 (of_z w128 (rem_z (to_z w128 (of_z w128 v)) (to_z w128 (of_z w128 s))))) ≡ false
    → IsRoundedUp v (to_z w128 (of_z w128 (quot_z (to_z w128 (of_z w128 v)) (to_z w128 (of_z w128 s)))))
whole_rounded v s f e h =
    subst (λ s. lt_z (pos 0) (rest v s) ≡ false → IsRoundedUp v (quotient v s)) (sym e) (whole_at_scale v f) h

-- no two whole numbers are both the value rounded up
pub rounded_once : (v m n : ℤ) → IsRoundedUp v m → IsRoundedUp v n → m ≡ n
rounded_once v m n a b =
    let low = a.least n b.reaches in
    let high = b.least m a.reaches in
    omega (arith, ints)
