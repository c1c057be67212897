use Rattle.std.proofs.Common.{Bool, List, length, subst}
use Rattle.vs_types.specs.declared.layer_set.LayerSet.{LayerSet}
use Rattle.vs_node.specs.SplitRule.{HasChoice, HoldsOfNone, IsLowest}
use Rattle.vs_node.specs.WorkedStep.{IsWorked}
use Rattle.vs_node.proofs.searches.Begun.{worked-start}
use Rattle.vs_node.proofs.sets.OneLayer.{choice_of_some, no_choice}
use Rattle.vs_node.proofs.working.work.Goals as goal

pub alone-requires-clause-single : goal.alone-requires-clause-single
alone-requires-clause-single c =
    no_choice c.args.instance.now c.args.task.now.sets.items c.requires.nets.instance c.requires.restriction
    (subst (λ (s : List LayerSet). HoldsOfNone (HasChoice s) (length s)) c.as_slice-sets.ensures.value
    c.in-None.ensures)

pub returns-in_ok-closed-in-None-clause-start : goal.returns-in_ok-closed-in-None-clause-start
returns-in_ok-closed-in-None-clause-start c root =
    let p = c.args.instance.now in
    let sets = c.args.task.now.sets.items in
    let old = c.args.task.now.table in
    let new = c.in_ok-closed-in-None.closed.table in
    worked-start p sets old new c.requires.restriction
    (subst (λ (b : Bool). IsWorked p b sets old new) root c.in_ok-closed-in-None.ensures.found.worked)

pub returns-in_ok-outcome-in-Some-clause-start : goal.returns-in_ok-outcome-in-Some-clause-start
returns-in_ok-outcome-in-Some-clause-start c root =
    let p = c.args.instance.now in
    let sets = c.args.task.now.sets.items in
    let old = c.args.task.now.table in
    let new = c.in_ok-outcome-in-Some.outcome.table in
    worked-start p sets old new c.requires.restriction
    (subst (λ (b : Bool). IsWorked p b sets old new) root c.in_ok-outcome-in-Some.ensures.found.worked)

pub returns-in_ok-outcome-in-Some-clause-alone : goal.returns-in_ok-outcome-in-Some-clause-alone
returns-in_ok-outcome-in-Some-clause-alone c single =
    let sets = c.args.task.now.sets.items in
    let i = c.in-Some._trip.0 in
    let found = subst (λ (s : List LayerSet). IsLowest (HasChoice s) (length s) i) c.as_slice-sets.ensures.value
    c.in-Some.ensures in
    absurd (choice_of_some sets i found.inside found.holds single)
