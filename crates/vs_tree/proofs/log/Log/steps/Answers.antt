use Rattle.std.proofs.Common.{◌≡◌, ◌∙◌, ap, sym, subst, ℕ, List, length, map}
use Rattle.std.specs.List.{All}
use Rattle.std.proofs.lemmas.List.{length-map}
use Rattle.vs_tree.specs.Log.{IsOfLog, Log, full_step, plain_step}
use Rattle.vs_tree.specs.Prices.{prices_of}
use Rattle.vs_tree.specs.declared.step.Step.{Step}
use Rattle.vs_tree.proofs.LogSteps.{plain-steps}
use Rattle.vs_tree.proofs.log.Log.steps.Goals as goal

pub returns-clause-steps : goal.returns-clause-steps
returns-clause-steps c =
    let i = c.self.inside in
    c.deref.ensures.value ∙ sym (plain-steps (map prices_of i.tables.items) i.plans.items i.steps.items)
    ∙ ap (λ (x : Log). map plain_step x.steps) c.self.view_is

pub returns-clause-full : goal.returns-clause-full
returns-clause-full c =
    let i = c.self.inside in
    subst (λ (x : Log). map (full_step x.tables x.plans) c.deref.result.now ≡ x.steps) c.self.view_is
    (ap (λ (y : List Step). map (full_step (map prices_of i.tables.items) i.plans.items) y) c.deref.ensures.value)

pub returns-clause-of_log : goal.returns-clause-of_log
returns-clause-of_log c =
    let i = c.self.inside in
    let size = length-map i.tables.items prices_of in
    let kept : All (IsOfLog (length i.tables.items) (length i.plans.items)) c.deref.result.now =
    subst (λ (y : List Step). All (IsOfLog (length i.tables.items) (length i.plans.items)) y)
    (sym c.deref.ensures.value) c.self.invariant.of_log in
    subst (λ (x : Log). All (IsOfLog (length x.tables) (length x.plans)) c.deref.result.now) c.self.view_is
    (subst (λ (n : ℕ). All (IsOfLog n (length i.plans.items)) c.deref.result.now) (sym size) kept)
