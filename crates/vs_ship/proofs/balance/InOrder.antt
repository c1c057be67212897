-- What units gain, counted over the numbers of the arcs.
use Rattle.std.proofs.Common.{◌≡◌, ◌+◌, ℕ, zero, suc, Bool, true, false, cond, List, [], ◌∷◌, length, map, filter, sum_by, refl, ap, arith, ℤ, pos, ◌+ℤ◌}
use Rattle.std.specs.List.{range_with_len}
use Rattle.std.proofs.lemmas.Int.{ints}
use Rattle.std.proofs.lemmas.List.Sums.{sum_by-cons}
use Rattle.vs_layer.specs.declared.arc.Arc.{Arc}
use Rattle.vs_instance.specs.Lagrangian.{total}
use Rattle.vs_ship.specs.Balance.{gained}
use Rattle.vs_ship.proofs.balance.AtMost.{gained_on}

-- numbers counted from one further on
pub total-range_suc : (f : ℕ → ℤ) (a n : ℕ)
    → total (map f (range_with_len (a + 1) n)) ≡ total (map (λ k. f (suc k)) (range_with_len a n))
total-range_suc f a zero = refl
total-range_suc f a (suc n) =
    let e : a + 1 ≡ suc a = omega arith in
    let here = ap f e in
    let rest = total-range_suc f (a + 1) n in
    omega (arith, ints, here, rest)

pub gained-in_order : (weight : ℕ → ℤ) (arcs : List Arc) (units : List ℕ) → length units ≡ length arcs
    → gained weight arcs units ≡ total (map (gained_on weight arcs units) (range_with_len 0 (length arcs)))
gained-in_order weight [] units sized = refl
gained-in_order weight (a ∷ arcs) [] sized = absurd (omega arith)
gained-in_order weight (a ∷ arcs) (n ∷ units) sized =
    let rest = gained-in_order weight arcs units (omega arith) in
    let shifted = total-range_suc (gained_on weight (a ∷ arcs) (n ∷ units)) 0 (length arcs) in
    omega (arith, ints, rest, shifted)

sum-filtered_cons : (f : ℕ → ℕ) (test : Bool) (a : ℕ) (later : List ℕ) (counted : ℤ) → pos (sum_by f later) ≡ counted
    → pos (sum_by f (cond test (a ∷ later) later)) ≡ cond test (pos (f a)) (pos 0) +ℤ counted
sum-filtered_cons f true a later counted rest = let first = sum_by-cons f a later in omega (arith, ints, first, rest)
sum-filtered_cons f false a later counted rest = omega (arith, ints, rest)

-- a sum over the numbers that meet a test counts the others as nothing
pub sum-filtered : (f : ℕ → ℕ) (test : ℕ → Bool) (a n : ℕ) → pos (sum_by f (filter test (range_with_len a n)))
    ≡ total (map (λ k. cond (test k) (pos (f k)) (pos 0)) (range_with_len a n))
sum-filtered f test a zero = refl
sum-filtered f test a (suc n) =
    sum-filtered_cons f (test a) a (filter test (range_with_len (a + 1) n)) _ (sum-filtered f test (a + 1) n)
