use Rattle.std.proofs.Common.{◌≡◌, ◌++◌, map, take}
use Rattle.std.specs.Prelude.{flat_map}
use Rattle.std.specs.List.{enumerate_from}
use Rattle.vs_reader.specs.Rows.{lines}
use Rattle.vs_tree.specs.Search.{state}
use Rattle.vs_rows.specs.DocumentRows.{written_rows}
use Rattle.vs_cert.specs.TreeText.{prices_of_number, prices_rows}
use Rattle.vs_cert.proofs.tree_document.write_numbered.Given as goal

-- the tables so far are written
abbrev pub invariant-loop-k : goal.invariant-loop-k
invariant-loop-k l = l.text ≡ l.initial.text
    ++ flat_map (λ e. lines (written_rows l.names (prices_rows l.tree.opening.problem e)))
    (take l.k (enumerate_from 1 (map (prices_of_number (state l.tree)) l.numbers.items)))
