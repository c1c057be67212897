use Rattle.std.proofs.Common.{◌≡◌, ℕ, ◌∙◌, ap, sym, subst, map, List, ◌∷◌, [], ◌++◌, length, append-nil}
use Rattle.std.specs.List.{All}
use Rattle.std.proofs.lemmas.List.{length-map}
use Rattle.vs_plan.specs.CheckedPlan.{Checked}
use Rattle.vs_tree.specs.History.{FullStep}
use Rattle.vs_tree.specs.Log.{IsOfLog, Log, full_step}
use Rattle.vs_tree.specs.Prices.{Prices, prices_of}
use Rattle.vs_tree.proofs.LogSteps.{steps-kept}
use Rattle.vs_tree.proofs.log.Log.add_plan.Goals as goal

pub returns-clause-log : goal.returns-clause-log
returns-clause-log c =
    let i = c.self.inside in
    let old : List Prices = map prices_of i.tables.items in
    let more : List Checked = c.args.plan ∷ [] in
    let each : All (IsOfLog (length old) (length i.plans.items)) i.steps.items =
    subst (λ (n : ℕ). All (IsOfLog n (length i.plans.items)) i.steps.items)
    (sym (length-map i.tables.items prices_of)) c.self.invariant.of_log in
    let kept : map (full_step (old ++ []) (i.plans.items ++ more)) i.steps.items
    ≡ map (full_step old i.plans.items) i.steps.items =
    steps-kept old [] i.plans.items more i.steps.items each in
    let same : map (full_step old (i.plans.items ++ more)) i.steps.items ≡ map (full_step old i.plans.items)
    i.steps.items =
    ap (λ (x : List Prices). map (full_step x (i.plans.items ++ more)) i.steps.items) (sym (append-nil old)) ∙ kept in
    let steps : map (full_step old c.push.new.self.items) i.steps.items ≡ map (full_step old i.plans.items)
    i.steps.items =
    ap (λ (x : List Checked). map (full_step old x) i.steps.items) c.in-Ok.ensures.items ∙ same in
    let with : List FullStep → List Checked → Log = λ steps plans. record {
      steps = steps;
      tables = old;
      plans = plans;
      step_room = i.rooms.steps;
      table_room = i.rooms.tables;
      plan_room = i.rooms.plans;
    } in
    ap (λ (x : List FullStep). with x c.push.new.self.items) steps
    ∙ ap (λ (x : List Checked). with (map (full_step old i.plans.items) i.steps.items) x) c.in-Ok.ensures.items
    ∙ ap (λ (x : Log). record x { plans = x.plans ++ more }) c.self.view_is
