use Rattle.std.proofs.Common.{◌∙◌, ◌<◌, List, length, ap, sym, subst, slice_get}
use Rattle.vs_plan.specs.CheckedPlan.{Checked}
use Rattle.vs_tree.specs.Search.{Search}
use Rattle.vs_tree.proofs.search.FirstPlan.{first-accepted, none-given, some-accepted}
use Rattle.vs_tree.proofs.search.Inside.{opening_of}
use Rattle.vs_tree.proofs.tree.Tree.first.Goals as goal

pub plan-requires : goal.plan-requires
plan-requires c =
    let i = c.self.inside in
    subst (λ (x : List Checked). 0 < length x) c.self.invariant.parts.plans
    (some-accepted (opening_of i) i.log.steps (sym c.is_given.ensures ∙ c.if-is_given.true))

pub returns-then-is_given : goal.returns-then-is_given
returns-then-is_given c =
    let i = c.self.inside in
    sym c.plan.ensures ∙ ap (λ (x : List Checked). slice_get x 0) (sym c.self.invariant.parts.plans)
    ∙ first-accepted (opening_of i) i.log.steps (sym c.is_given.ensures ∙ c.if-is_given.true)
    ∙ ap (λ (t : Search). t.opening.first) c.self.view_is

pub returns-else-is_given : goal.returns-else-is_given
returns-else-is_given c =
    sym (none-given c.self.inside.first (sym c.is_given.ensures ∙ c.if-is_given.false))
    ∙ ap (λ (t : Search). t.opening.first) c.self.view_is
