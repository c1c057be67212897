-- What units cost, arc by arc.
use Rattle.std.proofs.Common.{◌≡◌, ℕ, ◌*◌, ◌<◌, ◌∙◌, List, [], ◌∷◌, length, map, get_or, refl, ap, arith, ℤ, pos, ◌+ℤ◌, ◌*ℤ◌, ◌≤ℤ◌, sym, subst, rules, to_z, of_z, FitsSigned}
use Rattle.std.specs.List.{range_with_len}
use mir.Syntax.{w128}
use Rattle.std.proofs.lemmas.Int.{ints, to_z-of_z}
use Rattle.vs_layer.specs.declared.arc.Arc.{Arc}
use Rattle.vs_layer.specs.Ends.{arc_at}
use Rattle.vs_layer.specs.Circulation.{cost_of_units}
use Rattle.vs_instance.specs.Lagrangian.{total}
use Rattle.vs_ship.proofs.CallerLemmas.{total-range_suc}

-- what the units of one arc cost
abbrev pub cost_on : List Arc → List ℕ → ℕ → ℤ
cost_on arcs units k = (arc_at arcs k).cost *ℤ pos (get_or units k 0)

pub cost-in_order : (arcs : List Arc) (units : List ℕ) → length units ≡ length arcs
    → cost_of_units arcs units ≡ total (map (cost_on arcs units) (range_with_len 0 (length arcs)))
cost-in_order [] units sized = refl
cost-in_order (a ∷ arcs) [] sized = absurd (omega arith)
cost-in_order (a ∷ arcs) (n ∷ units) sized =
    let rest = cost-in_order arcs units (omega arith) in
    let shifted = total-range_suc (cost_on (a ∷ arcs) (n ∷ units)) 0 (length arcs) in
    omega (arith, ints, rest, shifted)

-- what is added to costs of few arcs is a number of 128 bits, and so is the sum
pub sum-fits : (bits k : ℕ) (z : ℤ) → k < 4294967296 → pos 0 ≤ℤ to_z w128 bits
    → to_z w128 bits ≤ℤ pos (85899345920000000000000 * k) → pos 0 ≤ℤ z → z ≤ℤ pos 85899345920000000000000
    → FitsSigned w128 (to_z w128 bits +ℤ to_z w128 (of_z w128 z))
    × (to_z w128 (of_z w128 (to_z w128 bits +ℤ to_z w128 (of_z w128 z))) ≡ to_z w128 bits +ℤ z)
sum-fits bits k z few low high no_less no_more =
    let fits : FitsSigned w128 z = search (rules, no_less, no_more) in
    let wide : to_z w128 (of_z w128 z) ≡ z = to_z-of_z w128 z fits in
    let more : (to_z w128 bits +ℤ z) ≤ℤ pos 368934881474191032320000000000000000 =
    omega (arith, ints, few, high, no_more) in
    let some : pos 0 ≤ℤ (to_z w128 bits +ℤ z) = omega (arith, ints, low, no_less) in
    let sum : FitsSigned w128 (to_z w128 bits +ℤ z) = search (rules, more, some) in
    let same : to_z w128 bits +ℤ to_z w128 (of_z w128 z) ≡ to_z w128 bits +ℤ z =
    ap (λ (x : ℤ). to_z w128 bits +ℤ x) wide in (
      subst (FitsSigned w128) (sym same) sum,
      ap (λ (x : ℤ). to_z w128 (of_z w128 x)) same ∙ to_z-of_z w128 (to_z w128 bits +ℤ z) sum,
    )
