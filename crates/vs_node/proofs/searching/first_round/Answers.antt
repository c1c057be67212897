use Rattle.std.proofs.Common.{Bool, sym, subst}
use Rattle.vs_multi.proofs.CallerLemmas.{of_table_within}
use Rattle.vs_node.specs.WorkedStep.{AreBegunWith}
use Rattle.vs_node.proofs.searches.Begun.{worked-by}
use Rattle.vs_node.proofs.searching.first_round.Goals as goal

pub few_rounds-requires-2-clause-multipliers : goal.few_rounds-requires-2-clause-multipliers
few_rounds-requires-2-clause-multipliers c =
    let case = c.args.case.now in
    of_table_within case.instance.now case.sets.now c.args.own.now c.of_table.new.multipliers c.of_table.ensures

pub returns-then-root-clause-worked : goal.returns-then-root-clause-worked
returns-then-root-clause-worked c =
    let case = c.args.case.now in
    let p = case.instance.now in
    let sets = case.sets.now in
    let own = c.args.own.now in
    let multipliers = c.start.new.multipliers in
    worked-by p c.args.root sets own c.in_ok-best.best.table multipliers
    (subst (λ (root : Bool). AreBegunWith p root sets own multipliers) (sym c.if-root.true) c.start.ensures.start)
    c.in_ok-best.ensures.lagrangian

pub returns-clause-worked : goal.returns-clause-worked
returns-clause-worked c =
    let case = c.args.case.now in
    let p = case.instance.now in
    let sets = case.sets.now in
    let own = c.args.own.now in
    let multipliers = c.of_table.new.multipliers in
    worked-by p c.args.root sets own c.in_ok-first.first.table multipliers
    (subst (λ (root : Bool). AreBegunWith p root sets own multipliers) (sym c.if-root.false) c.of_table.ensures)
    c.in_ok-first.ensures.lagrangian
