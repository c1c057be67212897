use Rattle.std.proofs.Common.{◌≡◌, ◌∙◌, ℕ, ℤ, List, length, set, refl, sym, ap, subst, Option, None, length-set}
use Rattle.std.proofs.lemmas.List.{with_items_is}
use Rattle.std.specs.Vec.{with_items}
use Rattle.vs_queue.specs.declared.step.Step.{Step}
use Rattle.vs_path.specs.Labels.{lists_of}
use Rattle.vs_path.specs.LeastPaths.{LeastPaths, AreLeastPaths, CanCost, IsSized}
use Rattle.vs_path.proofs.found.LeastCosts.{always-over, are-least, can-cost}
use Rattle.vs_path.proofs.labels.Labels.find_paths.Goals as goal

pub least_costs-requires-clause-space : goal.least_costs-requires-clause-space
least_costs-requires-clause-space c =
    let r = c.args.residual.now in
    let p = c.args.prices.now in
    let l = lists_of c.explore.new.self in
    let over =
    always-over r p c.args.zeros.now c.args.source l r.graph.nodes c.explore.result c.requires.zeros
    c.explore.ensures.found in
    let P : ℕ → Type 0 = λ u. CanCost l u p in
    subst P over.under_way.from (can-cost r p l c.requires.small over.under_way.labels)

pub returns-clause-paths : goal.returns-clause-paths
returns-clause-paths c =
    let r = c.args.residual.now in
    let p = c.args.prices.now in
    let l = lists_of c.explore.new.self in
    let source = c.args.source in
    let over =
    always-over r p c.args.zeros.now source l r.graph.nodes c.explore.result c.requires.zeros
    c.explore.ensures.found in
    let costs = c.least_costs.new.costs in
    let given = c.settled_steps.new.steps in
    let costs_sized : length costs ≡ c.args.tree.now.distances.len =
    c.least_costs.auto.costs ∙ c.deref_mut-costs.ensures.len in
    let steps_sized : length given ≡ c.args.tree.now.steps.len =
    c.settled_steps.auto.steps ∙ c.deref_mut-steps.ensures.len in
    let costs_long : length costs ≡ r.graph.nodes =
    c.least_costs.auto.costs ∙ ap length c.deref_mut-costs.ensures.value ∙ c.requires.size.distances in
    let steps_long : length given ≡ r.graph.nodes =
    c.settled_steps.auto.steps ∙ ap length c.deref_mut-steps.ensures.value ∙ c.requires.size.steps in
    let found : LeastPaths = record { distances = costs; steps = set given source None } in
    let size : IsSized r.graph.nodes found =
    record { distances = costs_long; steps = length-set given source None ∙ steps_long } in
    let least : AreLeastPaths r source found =
    are-least r p c.args.zeros.now source l over found size c.least_costs.ensures given c.settled_steps.ensures
    steps_long refl
    c.requires.source in
    let P : List (Option ℤ) → Type 0 =
    λ ds. AreLeastPaths r source (record { distances = ds; steps = set given source None }) in
    let Q : List (Option Step) → Type 0 = λ ks. AreLeastPaths r source (record {
      distances = (with_items c.args.tree.now.distances costs).items;
      steps = set ks source None;
    }) in
    subst Q (sym (with_items_is c.args.tree.now.steps given steps_sized))
    (subst P (sym (with_items_is c.args.tree.now.distances costs costs_sized)) least)
