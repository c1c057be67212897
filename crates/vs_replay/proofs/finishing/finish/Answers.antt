use Rattle.std.proofs.Common.{◌∙◌, sym, subst}
use Rattle.std.proofs.lemmas.Bool.{false≢true}
use Rattle.vs_instance.specs.Problem.{Problem}
use Rattle.vs_prices.specs.Table.{HoldingTable}
use Rattle.vs_tree.specs.Search.{state}
use Rattle.vs_replay.specs.Making.{step_of}
use Rattle.vs_replay.proofs.FinishedLeaves.{finishes_holding}
use Rattle.vs_replay.proofs.MadeSteps.{not_made}
use Rattle.vs_replay.proofs.finishing.finish.Goals as goal

pub returns-then-not-table_holds-clause-made : goal.returns-then-not-table_holds-clause-made
returns-then-not-table_holds-clause-made c =
    let t = c.args.tree.now in
    let done = c.args.done in
    not_made t t (step_of (state t) done)
    (λ may. false≢true (sym c.if-not-table_holds.true ∙ c.table_holds.ensures.holds.1
    (subst (λ (q : Problem). HoldingTable q done.table) c.requires.same
    (finishes_holding t.opening (state t) done.worker done.leaf done.table done.next may))))
