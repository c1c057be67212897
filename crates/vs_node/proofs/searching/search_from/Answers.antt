use Rattle.std.proofs.Common.{List, sym, subst}
use Rattle.vs_types.specs.declared.layer_set.LayerSet.{LayerSet}
use Rattle.vs_prices.specs.declared.table.Table.{Table}
use Rattle.vs_prices.specs.Bounds.{IsWorthNoLess}
use Rattle.vs_prices.specs.Table.{Fits, HoldingTable}
use Rattle.vs_prices.specs.Worth.{IsWorth}
use Rattle.vs_node.specs.NextSteps.{IsNextBy}
use Rattle.vs_node.specs.Outcomes.{HasNext, HasPlan}
use Rattle.vs_node.specs.WorkedStep.{IsWorked}
use Rattle.vs_node.proofs.tables.Comparing.{lagrangian-kept, worth_no_less-trans}
use Rattle.vs_node.proofs.searches.Nexts.{next_of_worth}
use Rattle.vs_node.proofs.searching.search_from.Goals as goal

pub returns-clause-found : goal.returns-clause-found
returns-clause-found g c =
    let p = c.args.case.now.instance.now in
    let task = c.args.task.now in
    let outcome = c.in_ok-outcome.outcome in
    let sets = c.args.case.now.sets.now in
    let sets_are = c.requires.leaf.own in
    let table_is = sym c.in_ok-outcome.ensures.table in
    let first = c.args.first.table in
    let table = c.refine.new.table in
    let refined = c.refine.ensures.no_less in
    let more = worth_no_less-trans p sets table c.in_ok-table.table task.table refined c.in_ok-table.ensures.no_less in
    let more_found = worth_no_less-trans p sets table c.in_ok-table.table first refined
    c.in_ok-table.ensures.no_less_found in
    record {
      fits = subst (Fits p) table_is c.refine.ensures.fits;
      holds = subst (HoldingTable p) table_is c.refine.ensures.holds;
      no_less = subst (λ (s : List LayerSet). IsWorthNoLess p s outcome.table task.table) sets_are
          (subst (λ (t : Table). IsWorthNoLess p sets t task.table) table_is more);
      worked = subst (λ (s : List LayerSet). IsWorked p task.root s task.table outcome.table) sets_are
          (subst (IsWorked p task.root sets task.table) table_is
          (λ multipliers begun. lagrangian-kept p sets table first multipliers more_found
          (c.requires.worked multipliers begun)));
      plan = subst (λ (s : List LayerSet). HasPlan p s outcome.table outcome.plan) sets_are
          (subst (λ (t : Table). HasPlan p sets t outcome.plan) table_is c.in_ok-outcome.ensures.plan);
    }

pub returns-clause-next : goal.returns-clause-next
returns-clause-next g c =
    let p = c.args.case.now.instance.now in
    let task = c.args.task.now in
    let outcome = c.in_ok-outcome.outcome in
    let sets_are = c.requires.leaf.own in
    let table = c.refine.new.table in
    let reached = c.in_ok-climbed.climbed.worth in
    let worth =
    subst (λ (s : List LayerSet). IsWorth p s table reached) sets_are c.in_ok-climbed.ensures.worth in
    let next = subst (λ (s : List LayerSet). IsNextBy s reached task.known outcome.plan outcome.next)
    sets_are c.in_ok-outcome.ensures.next in
    subst (λ (t : Table). HasNext p task t outcome.plan outcome.next) (sym c.in_ok-outcome.ensures.table)
    (next_of_worth p task table reached outcome.plan outcome.next worth next)
