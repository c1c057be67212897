use Rattle.std.proofs.Common.{◌≡◌, ◌++◌, take}
use Rattle.std.specs.Prelude.{flat_map}
use Rattle.std.specs.List.{enumerate_from}
use Rattle.vs_reader.specs.Rows.{lines}
use Rattle.vs_rows.specs.DocumentRows.{table_rows, written_rows}
use Rattle.vs_rows.proofs.writing.tables.write_tables.Given as goal

-- the tables so far are written
abbrev pub invariant-loop-k : goal.invariant-loop-k
invariant-loop-k l = l.text ≡ l.initial.text
    ++ flat_map (λ e. lines (written_rows l.names (table_rows l.instance e))) (take l.k
    (enumerate_from 1 l.tables.items))
