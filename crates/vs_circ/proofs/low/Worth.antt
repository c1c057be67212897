-- What units are worth at the costs of offers.
use Rattle.std.proofs.Common.{◌≡◌, ℕ, suc, ◌<◌, ◌∙◌, List, [], ◌∷◌, length, refl, sym, ap, subst, arith, Option, to_z, of_z, w64, ℤ, pos, negsuc, ◌+ℤ◌, ◌-ℤ◌, ◌*ℤ◌}
use Rattle.std.specs.List.{range_with_len}
use Rattle.std.specs.Prelude.{slice_index}
use Rattle.std.proofs.lemmas.Nat.{mul-le}
use Rattle.std.proofs.lemmas.Int.{ints}
use Rattle.vs_types.proofs.CallerLemmas.{times_sub}
use Rattle.vs_layer.specs.declared.arc.Arc.{Arc}
use Rattle.vs_layer.specs.Ends.{no_arc}
use Rattle.vs_layer.specs.Graph.{arc_of}
use Rattle.vs_layer.specs.Circulation.{cost_of_units, flow_cost}
use Rattle.vs_instance.proofs.CallerLemmas.{total-map_sub}
use Rattle.vs_match.specs.declared.arc_kind.ArcKind.{ArcKind}
use Rattle.vs_match.specs.declared.arc_kind.ArcKind.TheVariants.{Trip, Waiting, Deadhead, PullOut, PullIn, RestIn, RestWait, RestOut, Return}
use Rattle.vs_match.specs.LayerGraph.{LayerGraph, IsLabelled, kind_of}
use Rattle.vs_path.specs.declared.residual.TheConstants.{MAX_STEP_COST}
use Rattle.vs_path.specs.Residual.{IsWithin}
use Rattle.vs_circ.specs.Circulations.{paid_on, paid_by_units}
use Rattle.vs_circ.specs.Offers.{multipliers_of}
use Rattle.vs_circ.specs.shipping.Prepared.{AreOfferedCosts, offered_cost}
use Rattle.vs_circ.specs.shipping.Values.{worth_of_units, worth_on}
use Rattle.vs_circ.proofs.low.ArcTotals.{paid_by_arcs, paid_on_units}
use Rattle.vs_circ.proofs.low.LayerBounds.{multiplier_of-offer}
use Rattle.vs_circ.proofs.low.Reindexing.{for_units, for_units-by_number, over_range, total-same}

-- what the units of an arc cost is within 64 bits twice over
worth-within : (cost : ℤ) (n : ℕ) → IsWithin MAX_STEP_COST cost → n < 4294967296
    → IsWithin (pos 515396075520000000000000) (cost *ℤ pos n)
worth-within (pos m) n within few =
    let product = mul-le m n 120000000000000 4294967296 (omega (arith, ints, within.high)) (omega arith) in
    record { low = omega (arith, ints); high = omega (arith, ints, product) }
worth-within (negsuc m) n within few =
    let product = mul-le (suc m) n 120000000000000 4294967296 (omega (arith, ints, within.low)) (omega arith) in
    record { low = omega (arith, ints, product); high = omega (arith, ints) }

-- the same of a cost that is a word of 64 bits
pub worth-word : (cost worth : ℤ) (n : ℕ) → worth ≡ to_z w64 (of_z w64 cost) *ℤ pos n → IsWithin MAX_STEP_COST cost
    → n < 4294967296 → (worth ≡ cost *ℤ pos n) × IsWithin (pos 515396075520000000000000) worth
worth-word cost worth n is within few =
    let word : to_z w64 (of_z w64 cost) ≡ cost = omega (arith, ints, within.low, within.high) in
    let same = is ∙ ap (λ (z : ℤ). z *ℤ pos n) word in
    (same, subst (λ (z : ℤ). IsWithin (pos 515396075520000000000000) z) (sym same) (worth-within cost n within few))

-- what the flow costs, for its units
cost_for_units : (arcs : List Arc) (units : List ℕ)
    → cost_of_units arcs units ≡ for_units (λ a. a.cost) no_arc arcs units
cost_for_units [] units = refl
cost_for_units (a ∷ arcs) [] = refl
cost_for_units (a ∷ arcs) (n ∷ units) = ap (λ (c : ℤ). (a.cost *ℤ pos n) +ℤ c) (cost_for_units arcs units)

-- what an arc costs where trips are offered is what it costs less what its trip is paid
offered_cost-is : (offers : List (Option ℤ)) (kind : ArcKind) (a : Arc)
    → offered_cost offers kind a ≡ a.cost -ℤ paid_on (multipliers_of offers) kind
offered_cost-is offers (Trip i) a = let is = multiplier_of-offer offers i.0 in omega (arith, ints, is)
offered_cost-is offers Waiting a = omega (arith, ints)
offered_cost-is offers Deadhead a = omega (arith, ints)
offered_cost-is offers PullOut a = omega (arith, ints)
offered_cost-is offers PullIn a = omega (arith, ints)
offered_cost-is offers RestIn a = omega (arith, ints)
offered_cost-is offers RestWait a = omega (arith, ints)
offered_cost-is offers RestOut a = omega (arith, ints)
offered_cost-is offers Return a = omega (arith, ints)

-- what the units are worth is what the flow costs less what its trips are paid
pub worth-is : (n : LayerGraph) (offers : List (Option ℤ)) (cost : List ℤ) (units : List ℕ) → IsLabelled n
    → length units ≡ length n.graph.arcs → AreOfferedCosts n offers cost
    → worth_of_units cost units ≡ flow_cost n.graph units -ℤ paid_by_units (multipliers_of offers) n.kinds units
worth-is n offers cost units labelled sized costs =
    let arcs = length n.graph.arcs in
    let paid_of : ℕ → ℤ = paid_on_units n units (multipliers_of offers) in
    let cost_of : ℕ → ℤ = λ k. (arc_of n.graph k).cost *ℤ pos (slice_index units k) in
    let whole = cost_for_units n.graph.arcs units
    ∙ for_units-by_number (λ a. a.cost) no_arc n.graph.arcs units sized in
    let paid_is = paid_by_arcs n units sized (multipliers_of offers) labelled.each_arc in
    let counted = ap (over_range paid_of 0) labelled.each_arc in
    let ends = ap (over_range (worth_on cost units) 0) sized in
    let split = total-map_sub cost_of paid_of (range_with_len 0 arcs) in
    let each = total-same (worth_on cost units) (λ k. cost_of k -ℤ paid_of k) 0 arcs
    (λ k from within.
    ap (λ (c : ℤ). c *ℤ pos (slice_index units k))
    (costs k (omega (arith, within)) ∙ offered_cost-is offers (kind_of n k) (arc_of n.graph k))
    ∙ times_sub (arc_of n.graph k).cost (paid_on (multipliers_of offers) (kind_of n k)) (slice_index units k)) in
    omega (arith, ints, whole, paid_is, counted, ends, split, each)
