use Rattle.std.proofs.Common.{◌≡◌, ◌∙◌, ap, arith, rules, ℕ, Option, Some, set, replicate, sym, subst, length, List, refl, IfSome, get_or}
use Rattle.std.proofs.lemmas.List.{length-map, length-replicate}
use Rattle.vs_instance.specs.Instance.{IsInstance}
use Rattle.vs_instance.specs.Problem.{Problem}
use Rattle.vs_instance.specs.Restriction.{permitted_sets}
use Rattle.vs_plan.specs.CheckedPlan.{Checked}
use Rattle.vs_types.specs.declared.layer_set.LayerSet.{LayerSet}
use Rattle.vs_prices.specs.declared.bound.Bound.{Bound}
use Rattle.vs_prices.specs.Worth.{IsWorth}
use Rattle.vs_tree.specs.declared.calls.Hand.{Hand}
use Rattle.vs_tree.specs.declared.calls.Hand.TheVariants.{Idle}
use Rattle.vs_tree.specs.History.{plans_of}
use Rattle.vs_tree.specs.Free.{Entries}
use Rattle.vs_tree.specs.Prices.{AreWorth, Prices, no_prices, zero_prices}
use Rattle.vs_tree.specs.Sound.{IsPlanOf}
use Rattle.vs_tree.proofs.search.Starting.{start_search}
use Rattle.vs_tree.proofs.tree.Tree.start.Goals as goal

pub invariant_of-result : goal.invariant_of-result
invariant_of-result c =
    let p = c.args.instance in
    let hands : c.in_ok-hands.hands.items ≡ replicate c.args.workers Idle =
    c.in_ok-hands.ensures.items_if_clones_equal (search rules) in
    let workers : length c.in_ok-hands.hands.items ≡ c.args.workers =
    ap (λ (x : List Hand). length x) hands ∙ length-replicate c.args.workers Idle in
    let instance : IsInstance p = subst (λ (x : Problem). IsInstance x) c.instance.view_is c.instance.invariant in
    let first : IfSome c.of-given.result (IsPlanOf p) =
    subst (λ (x : Option Checked). IfSome x (IsPlanOf p)) (sym c.of-given.ensures) c.requires.first in
    let sets : c.deref.result.now ≡ permitted_sets p = c.deref.ensures.value ∙ c.in_ok-sets.ensures.sets in
    let worth : AreWorth p (permitted_sets p) (zero_prices p) c.worth-least.result = record {
      table = c.table.result.now;
      listed = c.table.ensures ∙ ap (λ (x : List Prices). get_or x 0 no_prices) c.in_ok-log.ensures.tables;
      worth = subst (λ (x : List LayerSet). IsWorth p x c.table.result.now c.worth-least.result) sets
          c.worth-least.ensures.worth;
    } in
    start_search _ _ (record { instance = instance; first = first }) c.requires.budget
    (omega (arith, workers, c.requires.few_workers)) c.worth-least.result worth
    c.in_ok-log.ensures.steps c.in_ok-log.ensures.tables
    (c.in_ok-log.ensures.plans ∙ ap (λ (x : Option Checked). plans_of x) (sym c.of-given.ensures))
    (omega (arith, workers, c.in_ok-log.ensures.step_room))
    (omega (arith, workers, c.in_ok-log.ensures.table_room))
    (omega (arith, workers, c.in_ok-log.ensures.plan_room))
    c.in_ok-places.ensures.root (omega (arith, c.in_ok-places.ensures.room))
    (hands ∙ ap (λ (n : ℕ). replicate n Idle) (sym workers))
    (c.put.ensures
    ∙ ap (λ (x : Entries). set x 0 (Some (record { worth = c.worth-least.result; leaf = 0 }))) c.in_ok-free.ensures)
    (ap (λ (x : List Bound). set x 0 c.worth-least.result) (c.in_ok-worths.ensures.items_if_clones_equal
    (search rules)))
    refl (ap (λ (x : List LayerSet). length x) c.in_ok-sets.ensures.sets ∙ length-map p.trips _)
