-- What is added to a text that is written.
use Rattle.std.specs.Prelude.{◌≡◌, ℕ, List, ◌++◌}
use Rattle.vs_reader.specs.Rows.{line, lines}
use Rattle.vs_reader.specs.Names.{NameLists}
use Rattle.vs_rows.specs.DocumentRows.{DocumentRow, written_row, written_rows}

-- a row, and some rows
abbrev pub AddsRow : NameLists → DocumentRow → List ℕ → List ℕ → Type 0
AddsRow names said old new = new ≡ old ++ line (written_row names said)

abbrev pub AddsRows : NameLists → List DocumentRow → List ℕ → List ℕ → Type 0
AddsRows names said old new = new ≡ old ++ lines (written_rows names said)
