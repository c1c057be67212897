-- The weight that units gain along arcs.
use Rattle.std.proofs.Common.{◌≡◌, ℕ, zero, suc, ◌+◌, ◌-◌, ◌<◌, List, [], ◌∷◌, length, set, get_or, ap, arith, ℤ, pos, ◌+ℤ◌, ◌-ℤ◌, ◌*ℤ◌}
use Rattle.std.proofs.lemmas.Int.{ints}
use Rattle.vs_types.proofs.CallerLemmas.{times_more}
use Rattle.vs_layer.specs.declared.arc.Arc.{Arc}
use Rattle.vs_layer.specs.Ends.{arc_at}
use Rattle.vs_ship.specs.Balance.{gained}

abbrev pub arc_gain : (ℕ → ℤ) → Arc → ℤ
arc_gain weight a = weight a.to -ℤ weight a.from

-- one arc carries another number of units
pub gained-set : (weight : ℕ → ℤ) (arcs : List Arc) (units : List ℕ) (k n : ℕ) → k < length arcs
    → length units ≡ length arcs
    → gained weight arcs (set units k n)
    ≡ gained weight arcs units
    +ℤ (arc_gain weight (arc_at arcs k) *ℤ pos n -ℤ arc_gain weight (arc_at arcs k) *ℤ pos (get_or units k 0))
gained-set weight [] units k n within sized = absurd (omega arith)
gained-set weight (a ∷ arcs) [] k n within sized = absurd (omega arith)
gained-set weight (a ∷ arcs) (m ∷ units) zero n within sized = omega (arith, ints)
gained-set weight (a ∷ arcs) (m ∷ units) (suc k) n within sized =
    let rest = gained-set weight arcs units k n (omega arith) (omega arith) in omega (arith, ints, rest)

-- a unit more
pub gained-more : (weight : ℕ → ℤ) (arcs : List Arc) (units : List ℕ) (k : ℕ) → k < length arcs
    → length units ≡ length arcs
    → gained weight arcs (set units k (get_or units k 0 + 1))
    ≡ gained weight arcs units +ℤ arc_gain weight (arc_at arcs k)
gained-more weight arcs units k within sized =
    let change = gained-set weight arcs units k (get_or units k 0 + 1) within sized in
    let product = times_more (arc_gain weight (arc_at arcs k)) (get_or units k 0) in
    omega (arith, ints, change, product)

-- a unit less
pub gained-less : (weight : ℕ → ℤ) (arcs : List Arc) (units : List ℕ) (k : ℕ) → k < length arcs
    → length units ≡ length arcs
    → 0 < get_or units k 0
    → gained weight arcs (set units k (get_or units k 0 - 1))
    ≡ gained weight arcs units -ℤ arc_gain weight (arc_at arcs k)
gained-less weight arcs units k within sized some =
    let n = get_or units k 0 - 1 in
    let change = gained-set weight arcs units k n within sized in
    let product = times_more (arc_gain weight (arc_at arcs k)) n in
    let back = ap (λ (m : ℕ). arc_gain weight (arc_at arcs k) *ℤ pos m) (is_back (get_or units k 0) some) in
    omega (arith, ints, change, product, back)
  where
    is_back : (m : ℕ) → 0 < m → (m - 1) + 1 ≡ m
    is_back m some = omega arith
