-- What units gain at most, where most arcs gain nothing.
use Rattle.std.proofs.Common.{◌≡◌, ◌≢◌, ◌<◌, ℕ, zero, suc, List, [], ◌∷◌, length, get_or, arith, ℤ, pos, ◌+ℤ◌, ◌*ℤ◌, ◌≤ℤ◌}
use Rattle.std.proofs.lemmas.Int.{ints}
use Rattle.vs_layer.specs.declared.arc.Arc.{Arc}
use Rattle.vs_layer.specs.Ends.{arc_at}
use Rattle.vs_ship.specs.Balance.{gained}
use Rattle.vs_ship.proofs.balance.Gained.{arc_gain}

-- what the units of one arc gain
abbrev pub gained_on : (ℕ → ℤ) → List Arc → List ℕ → ℕ → ℤ
gained_on weight arcs units k = arc_gain weight (arc_at arcs k) *ℤ pos (get_or units k 0)

pub gained-none_more : (weight : ℕ → ℤ) (arcs : List Arc) (units : List ℕ)
    → ((k : ℕ) → k < length arcs → gained_on weight arcs units k ≤ℤ pos 0) → gained weight arcs units ≤ℤ pos 0
gained-none_more weight [] units each = omega (arith, ints)
gained-none_more weight (a ∷ arcs) [] each = omega (arith, ints)
gained-none_more weight (a ∷ arcs) (n ∷ units) each =
    let here = each 0 (omega arith) in
    let rest = gained-none_more weight arcs units (λ k within. each (suc k) (omega arith)) in
    omega (arith, ints, here, rest)

-- where the others gain nothing, all gain no more than one arc
pub gained-one_more : (weight : ℕ → ℤ) (arcs : List Arc) (units : List ℕ) (l : ℕ) → length units ≡ length arcs
    → l < length arcs → ((k : ℕ) → k < length arcs → k ≢ l → gained_on weight arcs units k ≤ℤ pos 0)
    → gained weight arcs units ≤ℤ gained_on weight arcs units l
gained-one_more weight [] units l sized within each = absurd (omega arith)
gained-one_more weight (a ∷ arcs) [] l sized within each = absurd (omega arith)
gained-one_more weight (a ∷ arcs) (n ∷ units) zero sized within each =
    let rest = gained-none_more weight arcs units (λ k below. each (suc k) (omega arith) (λ e. omega arith)) in
    omega (arith, ints, rest)
gained-one_more weight (a ∷ arcs) (n ∷ units) (suc l) sized within each =
    let here = each 0 (omega arith) (λ e. omega arith) in
    let rest =
    gained-one_more weight arcs units l (omega arith) (omega arith)
    (λ k below apart. each (suc k) (omega arith) (λ e. apart (omega arith))) in
    omega (arith, ints, here, rest)

-- the same of two arcs
pub gained-two_more : (weight : ℕ → ℤ) (arcs : List Arc) (units : List ℕ) (k l : ℕ) → length units ≡ length arcs
    → k < l → l < length arcs
    → ((j : ℕ) → j < length arcs → j ≢ l → gained_on weight arcs units j ≤ℤ pos 0)
    → gained weight arcs units ≤ℤ (gained_on weight arcs units k +ℤ gained_on weight arcs units l)
gained-two_more weight [] units k l sized less within each = absurd (omega arith)
gained-two_more weight (a ∷ arcs) [] k l sized less within each = absurd (omega arith)
gained-two_more weight (a ∷ arcs) (n ∷ units) k zero sized less within each = absurd (omega arith)
gained-two_more weight (a ∷ arcs) (n ∷ units) zero (suc l) sized less within each =
    let rest =
    gained-one_more weight arcs units l (omega arith) (omega arith)
    (λ j below apart. each (suc j) (omega arith) (λ e. apart (omega arith))) in
    omega (arith, ints, rest)
gained-two_more weight (a ∷ arcs) (n ∷ units) (suc k) (suc l) sized less within each =
    let here = each 0 (omega arith) (λ e. omega arith) in
    let rest =
    gained-two_more weight arcs units k l (omega arith) (omega arith) (omega arith)
    (λ j below apart. each (suc j) (omega arith) (λ e. apart (omega arith))) in
    omega (arith, ints, here, rest)
