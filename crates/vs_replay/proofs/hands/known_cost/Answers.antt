use Rattle.std.proofs.Common.{◌∙◌, ap, rules, Some, Option, ℤ, SFits, w64, option_map}
use Rattle.std.proofs.lemmas.Int.{to_z-of_z}
use Rattle.vs_plan.specs.CheckedPlan.{Checked}
use Rattle.vs_replay.proofs.hands.known_cost.Goals as goal

pub returns-in-Some : goal.returns-in-Some
returns-in-Some c =
    let cost : Option Checked → Option ℤ = λ plan. option_map (λ p. p.cost) plan in
    let fits : SFits w64 c.cost.result = search rules in
    rw to_z-of_z (ap (λ (x : ℤ). Some x) c.cost.ensures.value ∙ ap cost c.in-Some.ensures)
