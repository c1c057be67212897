-- Units of two flows together, and what lies at the nodes in all.
use Rattle.std.proofs.Common.{◌≡◌, ℕ, zero, suc, ◌+◌, ◌<◌, ◌∙◌, Bool, true, false, cond, List, [], ◌∷◌, length, map, get_or, refl, sym, ap, arith, ℤ, pos, negsuc, ◌+ℤ◌, ◌*ℤ◌, ◌≤ℤ◌}
use Rattle.std.specs.Int.{int_max}
use Rattle.std.specs.List.{range_with_len}
use Rattle.std.proofs.lemmas.Int.{ints, clamps}
use Rattle.vs_types.proofs.CallerLemmas.{times_none, times_sum}
use Rattle.vs_layer.specs.declared.arc.Arc.{Arc}
use Rattle.vs_instance.specs.Lagrangian.{total}
use Rattle.vs_path.specs.Residual.{price_at}
use Rattle.vs_ship.specs.Balance.{gained, weighed}
use Rattle.vs_ship.specs.Shipments.{excess}
use Rattle.vs_ship.proofs.balance.Gained.{arc_gain}
use Rattle.vs_ship.proofs.balance.InOrder.{total-range_suc}
use Rattle.vs_ship.proofs.balance.Numbers.{total-range_same}
use Rattle.vs_ship.proofs.balance.Weights.{one_where, passed, passed-is}

-- two flows together gain what both gain
pub gained-both : (weight : ℕ → ℤ) (arcs : List Arc) (both a b : List ℕ) → length both ≡ length arcs
    → length a ≡ length arcs → length b ≡ length arcs
    → ((k : ℕ) → k < length arcs → get_or both k 0 ≡ get_or a k 0 + get_or b k 0)
    → gained weight arcs both ≡ gained weight arcs a +ℤ gained weight arcs b
gained-both weight [] both a b sized first second each = omega (arith, ints)
gained-both weight (arc ∷ arcs) [] a b sized first second each = absurd (omega arith)
gained-both weight (arc ∷ arcs) (n ∷ both) [] b sized first second each = absurd (omega arith)
gained-both weight (arc ∷ arcs) (n ∷ both) (x ∷ a) [] sized first second each = absurd (omega arith)
gained-both weight (arc ∷ arcs) (n ∷ both) (x ∷ a) (y ∷ b) sized first second each =
    let here = ap (λ (k : ℕ). arc_gain weight arc *ℤ pos k) (each 0 (omega arith)) in
    let sum = times_sum (arc_gain weight arc) x y in
    let rest =
    gained-both weight arcs both a b (omega arith) (omega arith) (omega arith)
    (λ k within. each (suc k) (omega arith)) in
    omega (arith, ints, here, sum, rest)

-- no units gain nothing
pub gained-none : (weight : ℕ → ℤ) (arcs : List Arc) (units : List ℕ) → ((k : ℕ) → get_or units k 0 ≡ 0)
    → gained weight arcs units ≡ pos 0
gained-none weight [] units none = refl
gained-none weight (arc ∷ arcs) [] none = refl
gained-none weight (arc ∷ arcs) (n ∷ units) none =
    let here = ap (λ (k : ℕ). arc_gain weight arc *ℤ pos k) (none 0) ∙ times_none (arc_gain weight arc) in
    let rest = gained-none weight arcs units (λ k. none (suc k)) in
    omega (arith, ints, here, rest)

passed-≤ : (from to : Bool) (n : ℕ) → passed from to n ≤ℤ pos n
passed-≤ true true n = omega (arith, ints)
passed-≤ true false n = omega (arith, ints)
passed-≤ false true n = omega (arith, ints)
passed-≤ false false n = omega (arith, ints)

-- with weights of 0 and 1 a unit gains 1 at most
pub gained-≤ : (test : ℕ → Bool) (arcs : List Arc) (units : List ℕ) → length units ≡ length arcs
    → gained (one_where test) arcs units ≤ℤ total (map (λ n. pos n) units)
gained-≤ test [] [] sized = omega (arith, ints)
gained-≤ test [] (n ∷ units) sized = absurd (omega arith)
gained-≤ test (arc ∷ arcs) [] sized = absurd (omega arith)
gained-≤ test (arc ∷ arcs) (n ∷ units) sized =
    let is = passed-is (test arc.from) (test arc.to) n in
    let here = passed-≤ (test arc.from) (test arc.to) n in
    let rest = gained-≤ test arcs units (omega arith) in
    omega (arith, ints, is, here, rest)

-- 1 times a number
times_one : (x : ℤ) → pos 1 *ℤ x ≡ x
times_one (pos m) = omega (arith, ints)
times_one (negsuc m) = omega (arith, ints)

-- whether a number is above 0
abbrev pub is_above : ℤ → Bool
is_above (pos zero) = false
is_above (pos (suc n)) = true
is_above (negsuc n) = false

above-is : (z : ℤ) → int_max (pos 0) z ≡ cond (is_above z) (pos 1) (pos 0) *ℤ z
above-is (pos zero) = omega (arith, ints, clamps)
above-is (pos (suc n)) =
    let big : int_max (pos 0) (pos (suc n)) ≡ pos (suc n) = omega (arith, ints, clamps) in
    big ∙ sym (times_one (pos (suc n)))
above-is (negsuc n) = omega (arith, ints, clamps)

total-places : (f : ℤ → ℤ) (xs : List ℤ)
    → total (map f xs) ≡ total (map (λ v. f (price_at xs v)) (range_with_len 0 (length xs)))
total-places f [] = refl
total-places f (x ∷ xs) =
    let rest = total-places f xs in
    let shifted = total-range_suc (λ v. f (price_at (x ∷ xs) v)) 0 (length xs) in
    omega (arith, ints, rest, shifted)

-- where something is left at the nodes
abbrev pub has_excess : List ℤ → ℕ → Bool
has_excess surplus v = is_above (price_at surplus v)

-- the excess is what the nodes weigh at which something is left
pub excess-weighed : (surplus : List ℤ) → excess surplus ≡ weighed (one_where (has_excess surplus)) surplus
excess-weighed surplus =
    total-places (int_max (pos 0)) surplus
    ∙ total-range_same (λ v. int_max (pos 0) (price_at surplus v))
    (λ v. one_where (has_excess surplus) v *ℤ price_at surplus v) 0 (length surplus)
    (λ v from within. above-is (price_at surplus v))
