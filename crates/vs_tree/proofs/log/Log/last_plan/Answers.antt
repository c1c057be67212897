use Rattle.std.proofs.Common.{◌∙◌, ◌-◌, ap, sym, List, None, length, slice_get}
use Rattle.std.specs.List.{last_or}
use Rattle.vs_plan.specs.CheckedPlan.{Checked}
use Rattle.vs_tree.specs.Log.{Log}
use Rattle.vs_tree.proofs.Accepted.{last-get}
use Rattle.vs_tree.proofs.log.Log.last_plan.Goals as goal

pub returns : goal.returns
returns c =
    let i = c.self.inside in
    c.last.ensures.value ∙ ap (λ (x : List Checked). slice_get x (length x - 1)) c.deref.ensures.value
    ∙ sym (last-get i.plans.items) ∙ ap (λ (x : Log). last_or None x.plans) c.self.view_is
