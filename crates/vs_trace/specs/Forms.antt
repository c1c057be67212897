-- What a row of a trace says that names nothing of the instance.
use Rattle.std.specs.Prelude.{◌≡◌, ℕ, ◌+◌, List, decimal}
use Rattle.vs_reader.specs.Names.{NameLists}
use Rattle.vs_reader.specs.Rows.{Row, field_of, row_of}
use Rattle.vs_trace.specs.TraceRows.{AreNumbers, SaysSo, TraceRow, spot_row}

-- row k says this, whatever the names are, or never does
abbrev pub TellsTrace : List Row → ℕ → TraceRow → Type 0
TellsTrace rows k said = (names : NameLists) → SaysSo names (row_of rows k) said

abbrev pub NeverTellsTrace : List Row → ℕ → TraceRow → Type 0
NeverTellsTrace rows k said = (names : NameLists) → ¬ (SaysSo names (row_of rows k) said)

-- the row is of this kind, and has this worker and this spot
abbrev pub IsSpotRow : List ℕ → Row → ℕ → ℕ → Type 0
IsSpotRow kind row worker spot = AreNumbers worker spot × (row ≡ spot_row kind worker spot)

-- the second and the third field write a worker and a spot, counted from 1
pub record AreInFields (row : Row) (r : ℕ × ℕ) : Type 0 where
  pub are_numbers : AreNumbers r.0 r.1
  pub worker_field : field_of row 1 ≡ decimal (r.0 + 1)
  pub spot_field : field_of row 2 ≡ decimal (r.1 + 1)
