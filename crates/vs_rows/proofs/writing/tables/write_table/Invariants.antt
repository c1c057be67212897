use Rattle.std.proofs.Common.{◌≡◌, ◌++◌, length, take}
use Rattle.std.specs.Prelude.{flat_map}
use Rattle.std.specs.List.{range_with_len}
use Rattle.vs_reader.specs.Rows.{lines}
use Rattle.vs_rows.specs.DocumentRows.{layer_rows, written_rows}
use Rattle.vs_rows.proofs.writing.tables.write_table.Given as goal

-- the layers so far are written
abbrev pub invariant-loop-l : goal.invariant-loop-l
invariant-loop-l l = l.text ≡ l.initial.text
    ++ flat_map (λ k. lines (written_rows l.names (layer_rows l.instance l.table k)))
    (take l.l (range_with_len 0 (length l.instance.layers)))
