use Rattle.std.proofs.Common.{◌∙◌, ◌-◌, ap, sym, rules, List, None, Some, length, slice_get, option_map, Option, ℤ, SFits, w64}
use Rattle.std.specs.List.{last_or}
use Rattle.std.proofs.lemmas.Int.{to_z-of_z}
use Rattle.vs_plan.specs.CheckedPlan.{Checked}
use Rattle.vs_tree.specs.Log.{Log}
use Rattle.vs_tree.proofs.Accepted.{last-get}
use Rattle.vs_tree.proofs.log.Log.known.Goals as goal

pub returns-in-Some : goal.returns-in-Some
returns-in-Some c =
    let i = c.self.inside in
    let cost : Option Checked → Option ℤ = λ plan. option_map (λ p. p.cost) plan in
    let fits : SFits w64 c.cost.result = search rules in
    rw to_z-of_z
    (ap (λ (x : ℤ). Some x) c.cost.ensures.value
    ∙ ap cost (c.in-Some.ensures.value ∙ ap (λ (x : List Checked). slice_get x (length x - 1)) c.deref.ensures.value
    ∙ sym (last-get i.plans.items) ∙ ap (λ (x : Log). last_or None x.plans) c.self.view_is))
