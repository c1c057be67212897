use Rattle.std.proofs.Common.{◌≡◌, ◌∙◌, ap, sym, subst, List, length, map}
use Rattle.std.specs.List.{All}
use Rattle.vs_plan.specs.CheckedPlan.{Checked}
use Rattle.vs_tree.specs.History.{State, state_of}
use Rattle.vs_tree.specs.Log.{IsOfLog, full_step}
use Rattle.vs_tree.specs.Prices.{Prices}
use Rattle.vs_tree.specs.Search.{Search, state}
use Rattle.vs_tree.proofs.search.Inside.{opening_of}
use Rattle.vs_tree.proofs.tree.Tree.history.Goals as goal

pub returns-clause-full : goal.returns-clause-full
returns-clause-full c =
    let i = c.self.inside in
    let s : State = state_of (opening_of i) i.log.steps in
    let parts = c.self.invariant.parts in
    subst (λ (t : Search). map (full_step (state t).tables (state t).accepted) c.steps.result.now ≡ t.steps)
    c.self.view_is
    (ap (λ (x : List Prices). map (full_step x s.accepted) c.steps.result.now) parts.tables
    ∙ ap (λ (y : List Checked). map (full_step i.log.tables y) c.steps.result.now) parts.plans ∙ c.steps.ensures.full)

pub returns-clause-of_log : goal.returns-clause-of_log
returns-clause-of_log c =
    let i = c.self.inside in
    let s : State = state_of (opening_of i) i.log.steps in
    let parts = c.self.invariant.parts in
    subst (λ (t : Search). All (IsOfLog (length (state t).tables) (length (state t).accepted)) c.steps.result.now)
    c.self.view_is
    (subst (λ (x : List Prices). All (IsOfLog (length x) (length s.accepted)) c.steps.result.now) (sym parts.tables)
    (subst (λ (y : List Checked). All (IsOfLog (length i.log.tables) (length y)) c.steps.result.now) (sym parts.plans)
    c.steps.ensures.of_log))
