use Rattle.std.proofs.Common.{◌≡◌, ◌∙◌, ◌*ℤ◌, ◌^◌, ℤ, pos, ap, sym, subst, arith, rules, of_z, to_z, w64}
use Rattle.std.specs.Int.{w128}
use Rattle.std.proofs.lemmas.Int.{ints, to_z-of_z}
use Rattle.vs_path.specs.Residual.{IsWithin}
use Rattle.vs_circ.proofs.shipping.Costing.{paid-within}
use Rattle.vs_circ.proofs.costing.arc_pays.Goals as goal

pub returns-clause-within : goal.returns-clause-within
returns-clause-within c =
    let one = c.unit_pays.result in
    let all = c.units_pay.result in
    let units = c.index-units.result.now in
    let within = c.unit_pays.ensures.within in
    let short : to_z w64 (of_z w64 one) ≡ one = omega (arith, ints, within.low, within.high) in
    let long : to_z w128 (of_z w128 all) ≡ all = to_z-of_z w128 all (search (rules, c.units_pay.type_inv)) in
    let is = long ∙ c.units_pay.ensures ∙ ap (λ (z : ℤ). z *ℤ pos units) short in
    subst (IsWithin (pos (2 ^ 95))) (sym is)
    (paid-within one units within (omega arith))
