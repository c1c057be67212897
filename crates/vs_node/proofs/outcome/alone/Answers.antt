use Rattle.std.proofs.Common.{List, subst}
use Rattle.vs_types.specs.declared.layer_set.LayerSet.{LayerSet}
use Rattle.vs_instance.specs.Restriction.{IsRestriction}
use Rattle.vs_node.specs.LeastPlans.{ShowsPlan}
use Rattle.vs_node.proofs.plans.SettledPlans.{shown-best, shown-closed, shown-no_less, shown-worked, single_chosen}
use Rattle.vs_node.proofs.outcome.alone.Goals as goal

-- the settled table shows the settled plan
shows : (c : goal.In_ok-settled) → ShowsPlan c.args.case.now.instance.now c.args.task.now.sets.items
    c.in_ok-settled.settled.table
    c.in_ok-settled.settled.plan
shows c =
    subst (λ (sets : List LayerSet). ShowsPlan c.args.case.now.instance.now sets c.in_ok-settled.settled.table
    c.in_ok-settled.settled.plan) c.requires.leaf.own c.in_ok-settled.ensures.shows

-- the task's sets are a restriction
restricted : (c : goal.In_ok-settled) → IsRestriction c.args.case.now.instance.now c.args.task.now.sets.items
restricted c = subst (IsRestriction c.args.case.now.instance.now) c.requires.leaf.own c.requires.leaf.case.restriction

pub returns-clause-found : goal.returns-clause-found
returns-clause-found c =
    let p = c.args.case.now.instance.now in
    let task = c.args.task.now in
    let sets = task.sets.items in
    let table = c.in_ok-settled.settled.table in
    let plan = c.in_ok-settled.settled.plan in
    let fits = c.in_ok-settled.ensures.fits in
    let holds = c.in_ok-settled.ensures.holds in
    let instance = c.requires.leaf.case.nets.instance in
    let restriction = restricted c in
    record {
      fits = fits;
      holds = holds;
      no_less =
          shown-no_less p sets table instance restriction fits holds plan (shows c) task.table c.requires.leaf.fits
          c.requires.leaf.holds;
      worked = shown-worked p sets table instance restriction fits holds plan (shows c) task.root task.table;
      plan = record {
        chosen = sets;
        are_chosen = single_chosen p sets table restriction c.requires.single;
        best = shown-best p sets table instance restriction fits holds plan (shows c);
      };
    }

pub returns-clause-full : goal.returns-clause-full
returns-clause-full c =
    shown-closed c.args.case.now.instance.now c.args.task.now.sets.items c.in_ok-settled.settled.table
    c.requires.leaf.case.nets.instance (restricted c) c.in_ok-settled.ensures.fits c.in_ok-settled.ensures.holds
    c.in_ok-settled.settled.plan (shows c) c.args.task.now.known
