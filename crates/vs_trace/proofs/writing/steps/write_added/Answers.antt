use Rattle.std.proofs.Common.{List, ◌++◌, sym, ap, ◌∙◌, subst}
use Rattle.vs_instance.specs.Problem.{Problem}
use Rattle.vs_prices.specs.Table.{Fits}
use Rattle.vs_reader.specs.Rows.{Row, lines}
use Rattle.vs_rows.specs.DocumentRows.{table_rows}
use Rattle.vs_rows.specs.Writing.{AddsRows}
use Rattle.vs_tree.specs.Prices.{AreLawful, Prices, no_prices, prices_of}
use Rattle.vs_tree.proofs.CallerLemmas.{histories_are_sound, lawful_fits}
use Rattle.vs_cert.specs.TreeText.{prices_rows}
use Rattle.vs_trace.specs.TraceRows.{priced_rows, written_traces}
use Rattle.vs_trace.proofs.WrittenSteps.{parts_written}
use Rattle.vs_trace.proofs.writing.steps.write_added.Goals as goal

pub write_table-requires-clause-fits : goal.write_table-requires-clause-fits
write_table-requires-clause-fits c =
    let t = c.args.tree.now in
    let known = c.instance-instance.ensures in
    let sound = histories_are_sound t.opening t.steps known.opening known.history in
    let table = c.table-table.result.now in
    let lawful = subst (AreLawful t.opening.problem) (sym c.table-table.ensures)
    (sound.tables c.args.number no_prices c.requires.number) in
    subst (λ (q : Problem). Fits q table) (sym known.value) (lawful_fits t.opening.problem table lawful)

pub returns : goal.returns
returns c =
    let t = c.args.tree.now in
    let p = t.opening.problem in
    let names = c.args.names.now in
    let n = c.args.number in
    let table = c.table-table.result.now in
    let added : AddsRows names (table_rows p (n, table)) c.args.text.now c.write_table.new.text =
    subst (λ (q : Problem). AddsRows names (table_rows q (n, table)) c.args.text.now c.write_table.new.text)
    c.instance-instance.ensures.value c.in_ok-write_table.ensures in
    added ∙ ap (λ (rows : List Row). c.args.text.now ++ lines rows) (sym (parts_written names (prices_rows p
    (n, prices_of table))))
    ∙ ap (λ (x : Prices). c.args.text.now ++ lines (written_traces names (priced_rows p n x))) c.table-table.ensures
