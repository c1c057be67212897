use Rattle.std.proofs.Common.{List, subst}
use Rattle.vs_types.specs.declared.layer_set.LayerSet.{LayerSet}
use Rattle.vs_node.specs.LeastPlans.{ShowsPlan}
use Rattle.vs_node.proofs.plans.SettledPlans.{shown-best}
use Rattle.vs_node.proofs.outcome.outcome_of.Goals as goal

pub returns-clause-plan : goal.returns-clause-plan
returns-clause-plan c =
    let p = c.args.case.now.instance.now in
    let chosen = c.in_ok-chosen.chosen.items in
    let settled = c.in_ok-settled.settled in
    let shows =
    subst (λ (sets : List LayerSet). ShowsPlan p sets settled.table settled.plan) c.as_slice-layers.ensures.value
    c.in_ok-settled.ensures.shows in
    record {
      chosen = chosen;
      are_chosen = c.in_ok-chosen.ensures.chosen;
      best =
          shown-best p chosen settled.table c.requires.case.nets.instance c.in_ok-chosen.ensures.restriction
          c.in_ok-settled.ensures.fits c.in_ok-settled.ensures.holds settled.plan shows;
    }
