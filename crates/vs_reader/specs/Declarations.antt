-- What the records of an instance give, and what is left behind them.
use Rattle.std.specs.Prelude.{◌≡◌, ◌+◌, List, ◌++◌, length, Result, Ok, Err}
use Rattle.vs_reader.specs.declared.reading.Declarations.{Declarations}
use Rattle.vs_reader.specs.declared.refused.ReadError.{ReadError}
use Rattle.vs_reader.specs.declared.text_records.TextRecords.{TextRecords}
use Rattle.vs_reader.specs.declared.version.Version.{Version}
use Rattle.vs_reader.specs.Rows.{Row}
use Rattle.vs_reader.specs.Kinds.{before_result}
use Rattle.vs_reader.specs.InstanceText.{AddAll, nothing_yet}
use Rattle.vs_reader.specs.Refusals.{BreaksRule}
use Rattle.vs_reader.specs.RecordNumbers.{HasNumbers}
use Rattle.vs_reader.specs.Drafts.{declared_of}
use Rattle.vs_reader.specs.Left.{GivesNext}
use Rattle.vs_reader.specs.ReadErrors.{RefusesAs}

-- the records before the first `result` record declare this, and that record is the current one if there is one
pub record AreDeclared (version : Version) (rows : List Row) (records : TextRecords) (d : Declarations) : Type 0 where
  pub left : List Row
  pub rows_are : rows ≡ before_result rows ++ left
  pub before : d.before ≡ length (before_result rows) + 1
  pub declares : AddAll version nothing_yet (before_result rows) (declared_of d.draft)
  pub numbers : HasNumbers d.draft.numbers (before_result rows)
  pub left_are : GivesNext records left d.in_rest

-- they are, or the first record that breaks a rule is refused
abbrev pub DeclareOrRefuse : Version → List Row → TextRecords → Result Declarations ReadError → Type 0
DeclareOrRefuse version rows records (Ok d) = AreDeclared version rows records d
DeclareOrRefuse version rows records (Err e) =
    RefusesAs (BreaksRule version 2 nothing_yet.names (before_result rows)) e
