use Rattle.std.proofs.Common.{◌++◌, sym, ap, ◌∙◌, arith}
use Rattle.vs_rows.specs.declared.document.Shape.{Shape}
use Rattle.vs_reader.specs.Rows.{line}
use Rattle.vs_rows.specs.DocumentRows.{shape_row, written_row}
use Rattle.vs_rows.proofs.written.WrittenParts.{written-map}
use Rattle.vs_rows.proofs.written.WrittenRows.{wrote_all}
use Rattle.vs_rows.proofs.writing.shapes.write_shapes.Goals as goal

pub returns : goal.returns
returns c =
    let shapes = c.args.shapes.now in let names = c.args.names.now in
    wrote_all
    (λ (s : Shape). line (written_row names (shape_row s))) c.args.text.now c.loop-shape.text shapes.items
    c.loop-shape.shape-index
    (omega (arith, shapes.ok.0)) c.loop-shape.invariant
    ∙ ap (λ rest. c.args.text.now ++ rest) (sym (written-map names shape_row shapes.items))
