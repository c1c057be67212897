use Rattle.std.proofs.Common.{◌≡◌, ◌++◌, take}
use Rattle.std.specs.Prelude.{flat_map}
use Rattle.vs_reader.specs.Rows.{line}
use Rattle.vs_rows.specs.DocumentRows.{shape_row, written_row}
use Rattle.vs_rows.proofs.writing.shapes.write_shapes.Given as goal

-- the rows so far are written
abbrev pub invariant-loop-shape : goal.invariant-loop-shape
invariant-loop-shape l =
    l.text ≡ l.initial.text ++ flat_map (λ s. line (written_row l.names (shape_row s)))
    (take l.shape-index l.shapes.items)
