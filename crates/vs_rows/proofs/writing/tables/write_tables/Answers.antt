use Rattle.std.proofs.Common.{◌≡◌, ℕ, ◌+◌, ◌<◌, List, ◌++◌, length, get_or, sym, ap, ◌∙◌, arith}
use Rattle.std.specs.List.{enumerate_from}
use Rattle.std.proofs.Math.Nat.{add_comm}
use Rattle.std.proofs.lemmas.List.FromFn.{get_or-enumerate_from, length-enumerate_from}
use Rattle.vs_prices.specs.declared.table.Table.{Table}
use Rattle.vs_reader.specs.Rows.{lines}
use Rattle.vs_rows.specs.DocumentRows.{table_rows, written_rows}
use Rattle.vs_rows.proofs.written.WrittenParts.{written-flat_map}
use Rattle.vs_rows.proofs.written.WrittenRows.{wrote_more, wrote_all}
use Rattle.vs_rows.proofs.writing.tables.write_tables.Goals as goal

pub loop-k-preserved : goal.loop-k-preserved
loop-k-preserved c =
    let p = c.args.instance.now in let names = c.args.names.now in let tables = c.args.tables.now in
    let k = c.loop-k.k in
    let bytes : ℕ × Table → List ℕ = λ e. lines (written_rows names (table_rows p e)) in
    let within : k < length tables.items = omega (arith, tables.ok.0) in
    let table = c.table-item.result in
    let same : get_or tables.items k table ≡ table =
    sym (c.table-item.is ∙ ap (λ items. get_or items k table) c.deref-table-items.ensures.value) in
    let place : get_or (enumerate_from 1 tables.items) k (k + 1, table) ≡ (k + 1, table) =
    get_or-enumerate_from 1 tables.items k (k + 1, table) within
    ∙ ap (λ n. (n, get_or tables.items k table)) (add_comm 1 k) ∙ ap (λ t. (k + 1, t)) same in
    wrote_more bytes c.args.text.now c.loop-k.text c.write_table.new.text (enumerate_from 1 tables.items) k
    (k + 1, table)
    (omega (arith, within, length-enumerate_from 1 tables.items)) c.loop-k.invariant
    (c.in_ok-write_table.ensures ∙ ap (λ e. c.loop-k.text ++ bytes e) (sym place))

pub returns : goal.returns
returns c =
    let p = c.args.instance.now in let names = c.args.names.now in let tables = c.args.tables.now in
    let numbered = enumerate_from 1 tables.items in
    wrote_all (λ (e : ℕ × Table). lines (written_rows names
    (table_rows p e))) c.args.text.now c.loop-k.text numbered c.loop-k.k
    (omega (arith, tables.ok.0, length-enumerate_from 1 tables.items)) c.loop-k.invariant
    ∙ ap (λ rest. c.args.text.now ++ rest) (sym (written-flat_map names (table_rows p) numbered))
