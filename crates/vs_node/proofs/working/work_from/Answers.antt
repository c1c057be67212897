use Rattle.std.proofs.Common.{Bool, List, length, sym, subst}
use Rattle.vs_types.specs.declared.layer_set.LayerSet.{LayerSet}
use Rattle.vs_node.specs.SplitRule.{HasChoice, HoldsOfNone}
use Rattle.vs_node.specs.WorkedStep.{IsWorked}
use Rattle.vs_node.proofs.sets.OneLayer.{no_choice}
use Rattle.vs_node.proofs.working.work_from.Goals as goal

pub alone-requires-clause-single : goal.alone-requires-clause-single
alone-requires-clause-single g c =
    no_choice c.args.instance.now c.args.task.now.sets.items c.requires.nets.instance c.requires.restriction
    (subst (λ (s : List LayerSet). HoldsOfNone (HasChoice s) (length s)) c.as_slice-sets.ensures.value
    c.in-None.ensures)

-- the first round is the first step of the work at the root
pub search_from-requires-clause-worked : goal.search_from-requires-clause-worked
search_from-requires-clause-worked g c =
    let p = c.args.instance.now in
    let task = c.args.task.now in
    let begun = c.args.begun.table in
    subst (λ (s : List LayerSet). IsWorked p task.root s task.table begun) (sym c.as_slice-sets.ensures.value)
    (subst (λ (b : Bool). IsWorked p b task.sets.items task.table begun) (sym c.requires.root) c.requires.begun)

pub returns-in_ok-closed-in-None-clause-worked : goal.returns-in_ok-closed-in-None-clause-worked
returns-in_ok-closed-in-None-clause-worked g c =
    subst (λ (b : Bool). IsWorked c.args.instance.now b c.args.task.now.sets.items c.args.task.now.table
    c.in_ok-closed-in-None.closed.table) c.requires.root c.in_ok-closed-in-None.ensures.found.worked

pub returns-in_ok-outcome-in-Some-clause-worked : goal.returns-in_ok-outcome-in-Some-clause-worked
returns-in_ok-outcome-in-Some-clause-worked g c =
    subst (λ (b : Bool). IsWorked c.args.instance.now b c.args.task.now.sets.items c.args.task.now.table
    c.in_ok-outcome-in-Some.outcome.table) c.requires.root c.in_ok-outcome-in-Some.ensures.found.worked
