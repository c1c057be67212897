use Rattle.std.proofs.Common.{[], ap, arith, length, sym, ◌∙◌}
use Rattle.std.proofs.lemmas.Bool.{false≢true}
use Rattle.std.proofs.lemmas.List.{get_or_past}
use Rattle.vs_document.proofs.parts.TableReading.{tables_more, tables_done}
use Rattle.vs_document.proofs.reading.tables.read_tables.Goals as goal
use Rattle.vs_document.proofs.reading.tables.read_tables.Goals.{then-loop-next-test+else-is_of_kind, else-loop-next-test}

pub loop-next-preserved : goal.loop-next-preserved
loop-next-preserved c =
    rw c.in_ok-push.ensures.items
    (tables_more c.args.input.now c.args.at c.loop-next.next c.in_ok-table.behind c.len-in-loop-next.result
    c.loop-next.tables.items c.in_ok-table.table c.loop-next.invariant
    (omega (arith, c.len-in-loop-next.ensures, c.loop-next.tables.ok.0)) c.in_ok-table.ensures.found)

pub returns-clause-found : goal.returns-clause-found
returns-clause-found c =
    tables_done c.args.input.now c.args.at c.loop-next.next c.loop-next.tables.items c.loop-next.invariant
    (elim c.loop-next-test.branch [
      | then-loop-next-test+else-is_of_kind w ↦ λ is. false≢true (sym w.if-is_of_kind.false ∙ w.is_of_kind.ensures.1 is)
      | else-loop-next-test w ↦
          λ is.
          omega (
            arith,
            is.fields_are,
            ap length (get_or_past c.args.input.now.rest c.loop-next.next []
                (omega (arith, w.loop-next-test.false, c.len.ensures))),
          )
    ])
