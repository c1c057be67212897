-- The records that a text has still to give.
use Rattle.std.specs.Prelude.{◌≡◌, ℕ, ◌+◌, ◌≤◌, Bool, List, [], ◌∷◌, Some, MatchBool}
use Rattle.csv.specs.Reading.{AreRecords, Ready, default_config, reader_config, reader_state, reader_trim, source_of}
use Rattle.csv.specs.Records.{fields_of}
use Rattle.csv.specs.declared.reader.Trim.TheVariants as trim
use Rattle.vs_reader.specs.declared.limits.TheConstants.{MAX_BYTES}
use Rattle.vs_reader.specs.declared.text_records.TextRecords.{TextRecords}
use Rattle.vs_reader.specs.Rows.{Row}
use Rattle.vs_reader.specs.RowEnds.{weight_of}

-- the text gives these records, one after another, and then none
pub record AreLeft (records : TextRecords) (rows : List Row) : Type 0 where
  pub untrimmed : reader_trim records.reader ≡ trim.None
  pub ready : Ready records.reader
  pub config : reader_config records.reader ≡ default_config
  pub bytes : List ℕ
  pub source : source_of (λ s. Some s.now) records.reader ≡ Some bytes
  pub are_records : AreRecords default_config (reader_state records.reader) bytes rows

-- the first of these rows was given and the others are left, or there was none
abbrev pub GivesNext : TextRecords → List Row → Bool → Type 0
GivesNext records rows found = MatchBool found
    ((rest : List Row) × (rows ≡ fields_of records.current ∷ rest) × AreLeft records rest)
    (rows ≡ [])

-- some records are left, and they and the current one have no more fields and bytes than a text
pub record IsOpen (records : TextRecords) : Type 0 where
  pub rows : List Row
  pub left : AreLeft records rows
  pub few : weight_of (fields_of records.current ∷ rows) ≤ MAX_BYTES + 1
