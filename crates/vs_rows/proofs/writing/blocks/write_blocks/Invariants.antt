use Rattle.std.proofs.Common.{◌≡◌, ◌++◌, take}
use Rattle.std.specs.Prelude.{flat_map}
use Rattle.vs_reader.specs.Rows.{line}
use Rattle.vs_rows.specs.DocumentRows.{BlockRow, written_row}
use Rattle.vs_rows.proofs.writing.blocks.write_blocks.Given as goal

-- the blocks so far are written
abbrev pub invariant-loop-block : goal.invariant-loop-block
invariant-loop-block l =
    l.text ≡ l.initial.text
    ++ flat_map (λ b. line (written_row l.names (BlockRow (b.layer, b.trips.items))))
    (take l.block-index l.plan.blocks.items)
