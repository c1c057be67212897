use Rattle.std.proofs.Common.{◌≡◌, Bool, List, sym, ap, ◌∙◌, subst}
use Rattle.vs_types.specs.declared.layer_set.LayerSet.{LayerSet}
use Rattle.vs_connect.specs.Cost.{lesser_of}
use Rattle.vs_plan.specs.CheckedPlan.{cost_of}
use Rattle.vs_prices.specs.Bounds.{IsWorthNoLess}
use Rattle.vs_node.specs.WorkedStep.{IsWorked}
use Rattle.vs_node.specs.declared.outcome.Task.{Task}
use Rattle.vs_node.proofs.CallerLemmas.{worth_no_less-trans}
use Rattle.vs_crew.proofs.leaves.Finding.{next-lesser, next-worked, plan-either, plan-turned, plan_of}
use Rattle.vs_crew.proofs.finding.found_at_root.Goals as goal

pub returns-then-not-has_choice-clause-found : goal.returns-then-not-has_choice-clause-found
returns-then-not-has_choice-clause-found g c =
    let p = c.args.instance.now in
    let task = c.args.task.now in
    let outcome = c.in_ok-alone.alone in
    let made = c.in_ok-alone.ensures in
    record {
      fits = made.fits;
      holds = made.holds;
      no_less = made.no_less;
      worked = made.worked;
      plan = plan_of p task.sets.items outcome.table outcome.plan made.plan;
      next = next-worked p task outcome.table outcome.plan outcome.next made.next;
    }

pub returns-clause-found : goal.returns-clause-found
returns-clause-found g c =
    let p = c.args.instance.now in
    let task = c.args.task.now in
    let agreed = c.in_ok-agreed.agreed in
    let outcome = c.in_ok-outcome.outcome in
    let made = c.in_ok-outcome.ensures in
    let best = c.cheaper-plan in
    let now : Task = record {
      sets = task.sets;
      table = c.agree.new.table;
      known = c.lesser-task.result;
      root = task.root;
    } in
    let known : c.lesser-task.result ≡ lesser_of task.known (cost_of agreed) =
    c.lesser-task.ensures ∙ ap (lesser_of task.known) c.cost_of.ensures in
    record {
      fits = made.fits;
      holds = made.holds;
      no_less = worth_no_less-trans p task.sets.items outcome.table c.agree.new.table task.table made.no_less
          (subst (λ (x : List LayerSet). IsWorthNoLess p x c.agree.new.table task.table)
          (sym (c.requires.lawful.root c.requires.root))
          c.agree.ensures.worth);
      worked = subst (λ (b : Bool). IsWorked p b task.sets.items task.table outcome.table) (sym c.requires.root)
          made.worked;
      plan = plan-either p agreed outcome.plan best.result (plan-turned p agreed c.in_ok-agreed.ensures.plan)
          (plan_of p task.sets.items outcome.table outcome.plan made.plan) best.ensures.cheaper.one_of;
      next = next-lesser p now task.known outcome.table agreed outcome.plan best.result outcome.next
          made.next known best.ensures.cost;
    }
