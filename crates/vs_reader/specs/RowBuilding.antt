-- Rows that are being put together.
use Rattle.std.specs.Prelude.{◌≡◌, ℕ, ◌+◌, List, length}
use Rattle.vs_reader.specs.declared.rows.RowBuilder.{RowBuilder}
use Rattle.vs_reader.specs.Rows.{Row}
use Rattle.vs_reader.specs.RowEnds.{rows_of, end_of, AreEnds}

-- the rows so far
abbrev pub built : RowBuilder → List Row
built b = rows_of b.bytes.items b.field_ends.items b.row_ends.items

-- how many bytes and fields they have
abbrev pub size_of : RowBuilder → ℕ
size_of b = length b.bytes.items + length b.field_ends.items

-- no field and no row is begun that isn't ended
pub record IsWhole (b : RowBuilder) : Type 0 where
  pub ends : AreEnds b.bytes.items b.field_ends.items b.row_ends.items
  pub fields : end_of 0 b.field_ends.items ≡ length b.bytes.items
  pub rows : end_of 0 b.row_ends.items ≡ length b.field_ends.items
