use Rattle.std.proofs.Common.{ℕ, List, ◌∷◌, [], ◌++◌, length, cond, sym, ap, ◌∙◌, arith}
use Rattle.std.specs.Prelude.{flat_map, codes, decimal}
use Rattle.std.specs.List.{range_with_len}
use Rattle.std.proofs.lemmas.List.{append_assoc}
use Rattle.vs_reader.specs.Rows.{Row, line, lines}
use Rattle.vs_rows.specs.DocumentRows.{layer_rows, written_rows}
use Rattle.vs_rows.proofs.written.WrittenParts.{written-flat_map}
use Rattle.vs_rows.proofs.written.WrittenRows.{numbered_more, numbered_all}
use Rattle.vs_rows.proofs.writing.tables.write_table.Goals as goal

pub loop-l-preserved : goal.loop-l-preserved
loop-l-preserved c =
    let p = c.args.instance.now in let names = c.args.names.now in let table = c.args.table.now in
    numbered_more
    (λ k. lines (written_rows names (layer_rows p table k))) c.write_kind.new.text c.loop-l.text c.write_layer.new.text
    (length p.layers) c.loop-l.l
    (omega (arith, c.layers-l-end.ensures.count)) c.loop-l.invariant c.in_ok-write_layer.ensures

pub returns : goal.returns
returns c =
    let p = c.args.instance.now in let names = c.args.names.now in let table = c.args.table.now in
    let bytes : ℕ → List ℕ = λ k. lines (written_rows names (layer_rows p table k)) in
    let numbers = range_with_len 0 (length p.layers) in
    let kind : Row = codes "table" ∷ decimal c.args.number ∷ cond table.ray (codes "ray") (codes "cost") ∷ [] in
    numbered_all bytes c.write_kind.new.text c.loop-l.text (length p.layers) c.loop-l.l
    (omega (arith, c.layers-l-end.ensures.count)) c.loop-l.invariant
    ∙ ap (λ text. text ++ flat_map bytes numbers) c.in_ok-write_kind.ensures
    ∙ append_assoc c.args.text.now (line kind) (flat_map bytes numbers)
    ∙ ap (λ rest. c.args.text.now ++ (line kind ++ rest)) (sym (written-flat_map names (layer_rows p table) numbers))
