use Rattle.std.proofs.Common.{◌≡◌, rules, arith, FitsSigned, to_z, of_z, w64, Some, ℤ, sym, ap, ◌∙◌}
use Rattle.std.proofs.lemmas.Int.{ints, to_z-of_z}
use Rattle.vs_instance.specs.Firsts.{first}
use Rattle.vs_plan.specs.Blocks.{blocks_of}
use Rattle.vs_check.specs.declared.flaw.Flaw.TheVariants.{CostDiffers}
use Rattle.vs_check.specs.Flaws.{plan_flaws}
use Rattle.vs_check.proofs.PlanFlaws.{right_cost, wrong_cost}
use Rattle.vs_check.proofs.verdict.plan_flaw.Goals as goal

same_bits : (x y : ℤ) → FitsSigned w64 x → FitsSigned w64 y → of_z w64 x ≡ of_z w64 y → x ≡ y
same_bits x y f g e = sym (to_z-of_z w64 x f) ∙ ap (to_z w64) e ∙ to_z-of_z w64 y g

pub returns-then-found-cost : goal.returns-then-found-cost
returns-then-found-cost c =
    let p = c.args.instance.now in
    let blocks = blocks_of c.args.document.now.plan in
    let cost_fits : FitsSigned w64 c.in-Some.cost = search rules in
    let found_fits : FitsSigned w64 c.in-Ok.found =
    omega (arith, ints, c.in-Ok.ensures.plan.1, c.in-Ok.ensures.limit) in
    let same = same_bits c.in-Ok.found c.in-Some.cost found_fits cost_fits c.if-found-cost.true in
    sym (ap first
    (ap (plan_flaws p blocks) c.in-Some.is
    ∙ right_cost p blocks c.in-Some.cost c.in-Ok.ensures.plan.0 (sym same ∙ c.in-Ok.ensures.plan.1)))

pub returns-else-found-cost : goal.returns-else-found-cost
returns-else-found-cost c =
    let p = c.args.instance.now in
    let blocks = blocks_of c.args.document.now.plan in
    let cost_fits : FitsSigned w64 c.in-Some.cost = search rules in
    let found_fits : FitsSigned w64 c.in-Ok.found =
    omega (arith, ints, c.in-Ok.ensures.plan.1, c.in-Ok.ensures.limit) in
    ap (λ (x : ℤ). Some (CostDiffers x (to_z w64 (of_z w64 c.in-Ok.found)))) (to_z-of_z w64 c.in-Some.cost cost_fits)
    ∙ ap (λ (x : ℤ). Some (CostDiffers c.in-Some.cost x)) (to_z-of_z w64 c.in-Ok.found found_fits)
    ∙ wrong_cost p blocks c.in-Some.cost c.in-Ok.found c.in-Ok.ensures.plan.0 c.in-Ok.ensures.plan.1
    (λ e. c.if-found-cost.false (ap (of_z w64) (sym e)))
    ∙ sym (ap first (ap (plan_flaws p blocks) c.in-Some.is))
