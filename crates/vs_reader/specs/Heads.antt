-- What the records of a text give up to the first `result` record.
use Rattle.std.specs.Prelude.{List, Result, Ok, Err}
use Rattle.vs_reader.specs.declared.reading.Head.{Head}
use Rattle.vs_reader.specs.declared.refused.ReadError.{ReadError}
use Rattle.vs_reader.specs.declared.text_records.TextRecords.{TextRecords}
use Rattle.vs_reader.specs.Rows.{Row}
use Rattle.vs_reader.specs.InstanceText.{InstanceText}
use Rattle.vs_reader.specs.Left.{GivesNext}
use Rattle.vs_reader.specs.ReadErrors.{RefusesAs}
use Rattle.vs_reader.specs.Refusals.{IsRefusal}

-- the rows are an instance text, and the first `result` record is the current one if there is one
pub record IsHead (rows : List Row) (records : TextRecords) (head : Head) : Type 0 where
  pub rest : List Row
  pub text : InstanceText rows head.instance head.names head.before rest
  pub rest_are : GivesNext records rest head.in_rest

-- they are, or are refused
abbrev pub HeadOrRefuse : List Row → TextRecords → Result Head ReadError → Type 0
HeadOrRefuse rows records (Ok head) = IsHead rows records head
HeadOrRefuse rows records (Err e) = RefusesAs (IsRefusal rows) e
