use Rattle.std.proofs.Common.{◌++◌, ◌∷◌, [], ap, ◌∙◌}
use Rattle.std.specs.Prelude.{map}
use Rattle.vs_plan.specs.Blocks.{blocks_of}
use Rattle.vs_reader.specs.Rows.{lines}
use Rattle.vs_rows.specs.DocumentRows.{BlockRow, head_rows, shape_row, tables_rows, written_rows}
use Rattle.vs_rows.proofs.written.WrittenParts.{written_in_turn}
use Rattle.vs_rows.proofs.writing.document.text_of.Goals as goal

pub returns : goal.returns
returns c =
    let d = c.args.document.now in
    written_in_turn c.args.names.now (head_rows d) (map BlockRow (blocks_of d.plan))
    (tables_rows c.args.instance.now d.tables.items) (map shape_row d.shape.items) c.write_head.new.text
    c.write_blocks.new.text c.write_tables.new.text c.write_shapes.new.text c.into_bytes.result.items
    (c.in_ok-write_head.ensures ∙ ap (λ t. t ++ lines (written_rows c.args.names.now (head_rows d)))
    c.new-text.ensures) c.in_ok-write_blocks.ensures
    c.in_ok-write_tables.ensures c.in_ok-write_shapes.ensures
    (c.into_bytes.ensures ∙ c.in_ok-end_row.ensures ∙ ap (λ t. t ++ 10 ∷ []) c.in_ok-begin_row.ensures)
